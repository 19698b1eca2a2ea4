use Rattle.std.proofs.Common.{ℕ, get_or}
use Rattle.std.proofs.lemmas.List.{get_or_default}
use Rattle.std.proofs.lemmas.List.Elements.{Contains-get_or}
use Rattle.gql_clashes.proofs.Members.{take_has, take_kept}
use Rattle.gql_clashes.proofs.NeededPairs.{needed_all, needed_more, needed_none}
use Rattle.gql_clashes.proofs.needed.needed_pairs.Goals as goal

pub loop-body-init : goal.loop-body-init
loop-body-init c = needed_none c.args.sets.now c.new-pairs.result.items c.new-pairs.ensures.items

pub add_needed-requires-clause-body : goal.add_needed-requires-clause-body
add_needed-requires-clause-body c = c.requires.bodies _ (Contains-get_or c.args.bodies.now c.loop-body.body-index 0 c.loop-body-test.true)

pub loop-body-preserved : goal.loop-body-preserved
loop-body-preserved c =
    let u : ℕ = get_or c.args.bodies.now c.loop-body.body-index 0 in
    let is = get_or_default c.args.bodies.now c.loop-body.body-index u 0 c.loop-body-test.true in
    needed_more c.args.sets.now _ _ u c.loop-body.pairs.items c.add_needed.new.pairs.items c.loop-body.invariant c.in_ok-add_needed.ensures
    (λ d h. take_has c.args.bodies.now c.loop-body.body-index u d c.loop-body-test.true is h)
    (λ d h. take_kept c.args.bodies.now c.loop-body.body-index u d c.loop-body-test.true is h)

pub returns : goal.returns
returns c = needed_all c.args.sets.now c.args.bodies.now c.loop-body.body-index c.loop-body.pairs.items c.loop-body-test.false c.loop-body.invariant
