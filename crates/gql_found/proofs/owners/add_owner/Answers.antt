use Rattle.gql_found.proofs.Marks.{owner_added}
use Rattle.gql_found.proofs.owners.add_owner.Goals as goal

pub returns-in_ok-insert : goal.returns-in_ok-insert
returns-in_ok-insert c = λ d.
    owner_added c.args.fault.now c.in-Some.owner c.in-Some.is c.in_ok-copy.field-0 c.in_ok-copy.ensures d _ _ (c.in_ok-insert.ensures.updates.0 _)
