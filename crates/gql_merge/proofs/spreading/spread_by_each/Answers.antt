use Rattle.std.proofs.Common.{bytes_eq, sym}
use Rattle.std.specs.HashMap as hash
use Rattle.gql_merge.proofs.SpreadWalks.{each_all, each_more}
use Rattle.gql_merge.proofs.spreading.spread_by_each.Goals as goal

pub loop-set-preserved : goal.loop-set-preserved
loop-set-preserved c =
    each_more c.args.members.now (λ q. hash.get_by (λ k. bytes_eq q k.now) c.args.places.now) c.args.bodies.now c.args.sets.now c.loop-set.set-index c.set-item.result
    c.loop-set.found.items c.push.new.self.items c.in_ok-spread_set.field-0 c.loop-set-test.true (sym c.set-item.is) c.in_ok-spread_set.ensures c.in_ok-push.ensures.items c.loop-set.invariant

pub returns : goal.returns
returns c =
    each_all c.args.members.now (λ q. hash.get_by (λ k. bytes_eq q k.now) c.args.places.now) c.args.bodies.now c.args.sets.now c.loop-set.set-index c.loop-set.found.items
    c.loop-set-test.false c.loop-set.invariant
