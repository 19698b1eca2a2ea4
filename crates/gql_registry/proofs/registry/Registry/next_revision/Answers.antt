use Rattle.std.proofs.Common.{rules}
use Rattle.gql_registry.proofs.FirstRefusals.{first_stale, first_spent}
use Rattle.gql_registry.proofs.registry.Registry.next_revision.Goals as goal

pub returns-then-revision-self-clause-err : goal.returns-then-revision-self-clause-err
returns-then-revision-self-clause-err c = rw c.in-Some.is (first_stale _ c.in-Some.revision c.if-revision-self.true)

pub returns-in-None-clause-err : goal.returns-in-None-clause-err
returns-in-None-clause-err c = first_spent _ _ (search rules) (search rules)
