use Rattle.std.proofs.Common.{bytes_eq, sym}
use Rattle.std.specs.HashMap as hash
use Rattle.gql_clashes.specs.declared.sets.Body.{Body}
use Rattle.gql_merge.proofs.SpreadWalks.{map_all, map_more}
use Rattle.gql_merge.specs.SpreadPlaces.{no_places, places_spread}
use Rattle.gql_merge.proofs.spreading.own_bodies.Goals as goal

pub loop-member-preserved : goal.loop-member-preserved
loop-member-preserved c = record {
  fields = map_more no_places (λ (b : Body). b.fields.items) c.args.members.now c.loop-member.member-index c.member-item.result c.loop-member.bodies.items c.in_ok-own_body.field-0 c.push.new.self.items
      c.loop-member-test.true (sym c.member-item.is) c.loop-member.invariant.fields c.in_ok-own_body.ensures.fields c.in_ok-push.ensures.items;
  spreads = λ facts. map_more (places_spread (λ q. hash.get_by (λ k. bytes_eq q k.now) c.args.places.now) facts) (λ (b : Body). b.spreads.items) c.args.members.now c.loop-member.member-index
      c.member-item.result c.loop-member.bodies.items c.in_ok-own_body.field-0 c.push.new.self.items
      c.loop-member-test.true (sym c.member-item.is) (c.loop-member.invariant.spreads facts) (c.in_ok-own_body.ensures.spreads facts) c.in_ok-push.ensures.items;
}

pub returns-clause-spreads : goal.returns-clause-spreads
returns-clause-spreads c = λ facts. map_all (places_spread (λ q. hash.get_by (λ k. bytes_eq q k.now) c.args.places.now) facts) (λ (b : Body). b.spreads.items) c.args.members.now c.loop-member.member-index
    c.loop-member.bodies.items c.loop-member-test.false (c.loop-member.invariant.spreads facts)
