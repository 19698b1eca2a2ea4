use Rattle.std.proofs.Common.{◌≡◌, true, cond, subst}
use Rattle.std.specs.HashSet.{contains}
use Rattle.gql_ast.specs.declared.fault.FilePlace.{FilePlace}
use Rattle.gql_serving.specs.Owners.{same_place}
use Rattle.gql_serving.proofs.Places.{one_place_more}
use Rattle.gql_serving.proofs.owner.Owners.at.Goals as goal

pub loop-owner-preserved : goal.loop-owner-preserved
loop-owner-preserved c = λ p.
    let old = contains same_place c.loop-owner.places p in
    let new = contains same_place c.insert.new.self p in
    one_place_more c.args.owners.now c.loop-owner.owner-index c.owner-item.result p old new c.loop-owner-test.true c.owner-item.is
    (subst (λ (q : FilePlace). new ≡ cond (same_place q p) true old) c.in_ok-copy.ensures (c.in_ok-insert.ensures.updates.0 p))
    (c.loop-owner.invariant p)
