use Rattle.std.proofs.Common.{subst}
use Rattle.gql_registry.specs.Keeping.{Keeping}
use Rattle.gql_verdict.specs.FileOrder.{AreFilesPlaced}
use Rattle.gql_registry.proofs.kept.Kept.files.Goals as goal

pub returns-clause-placed : goal.returns-clause-placed
returns-clause-placed c = subst (λ (k : Keeping). AreFilesPlaced k.files.documents) c.self.view_is c.self.invariant.placed
