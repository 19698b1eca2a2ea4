use Rattle.std.proofs.Common.{◌∙◌, bytes_eq, arith}
use Rattle.std.specs.HashMap as hash
use Rattle.gql_single_root.proofs.Walking.{fewer_left, walked_fields, walked_first, walked_next}
use Rattle.gql_single_root.proofs.walk.root_fields.Goals as goal

pub fragments-init : goal.fragments-init
fragments-init g c = record {
  same_facts = c.in_ok-add_root.ensures.facts;
  same_names = c.in_ok-add_root.ensures.names;
  same_lent = c.in_ok-add_root.ensures.lent;
  walked = walked_first (g.W.World.facts c.args.world.now) c.args.root.now c.args.file.now c.args.set.now c.args.members.now c.requires
      (λ q. hash.get_by (λ k. bytes_eq q k.now) c.in_ok-places.places) c.in_ok-places.ensures _ _ c.new.ensures.empty c.new-2.ensures.items c.in_ok-add_root.ensures.taken;
}

pub fragments-smaller : goal.fragments-smaller
fragments-smaller g c =
    fewer_left (g.W.World.facts c.args.world.now) c.args.root.now c.args.file.now c.args.set.now c.args.members.now c.requires
    (λ q. hash.get_by (λ k. bytes_eq q k.now) c.in_ok-places.places) c.in_ok-places.ensures c.fragments.at c.fragments.walk c.fragments.invariant.walked
    c.len.ensures.unique (omega (arith, c.fragments-test.true, c.len.ensures.len))

pub fragments-preserved : goal.fragments-preserved
fragments-preserved g c = record {
  same_facts = c.in_ok-enter.ensures.facts ∙ c.fragments.invariant.same_facts;
  same_names = c.in_ok-enter.ensures.names ∙ c.fragments.invariant.same_names;
  same_lent = c.in_ok-enter.ensures.lent ∙ c.fragments.invariant.same_lent;
  walked = walked_next (g.W.World.facts c.args.world.now) c.args.root.now c.args.file.now c.args.set.now c.args.members.now c.requires
      (λ q. hash.get_by (λ k. bytes_eq q k.now) c.in_ok-places.places) c.in_ok-places.ensures _ c.fragments.at _ _ c.fragments.invariant.same_facts
      (omega (arith, c.fragments-test.true, c.len.ensures.len)) c.fragments.invariant.walked c.in_ok-enter.ensures.taken;
}

pub returns-clause-fields : goal.returns-clause-fields
returns-clause-fields g c =
    walked_fields (g.W.World.facts c.args.world.now) c.args.root.now c.args.file.now c.args.set.now c.args.members.now c.requires
    (λ q. hash.get_by (λ k. bytes_eq q k.now) c.in_ok-places.places) c.in_ok-places.ensures c.fragments.at _ c.fragments.invariant.walked
    (λ lt. omega (arith, lt, c.fragments-test.false, c.len.ensures.len))
