use Rattle.std.proofs.Common.{◌≡◌, true, cond, subst}
use Rattle.std.specs.HashSet.{contains}
use Rattle.gql_ast.specs.declared.fault.FilePlace.{FilePlace}
use Rattle.gql_serving.specs.Owners.{same_place}
use Rattle.gql_serving.proofs.Places.{put_owner}
use Rattle.gql_serving.proofs.owner.add_owner.Goals as goal

pub returns-in_ok-insert : goal.returns-in_ok-insert
returns-in_ok-insert c = λ p.
    let old = contains same_place c.args.places.now p in
    let new = contains same_place c.insert.new.self p in
    put_owner c.args.fault.now c.in-Some.owner p old new c.in-Some.is
    (subst (λ (q : FilePlace). new ≡ cond (same_place q p) true old) c.in_ok-copy.ensures (c.in_ok-insert.ensures.updates.0 p))
