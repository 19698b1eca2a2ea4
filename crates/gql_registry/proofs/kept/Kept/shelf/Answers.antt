use Rattle.std.proofs.Common.{subst}
use Rattle.gql_registry.specs.Keeping.{ArePairsOf, IsShelfOf, Keeping}
use Rattle.gql_registry.proofs.kept.Kept.shelf.Goals as goal

pub returns-clause-current : goal.returns-clause-current
returns-clause-current c = subst (λ (k : Keeping). IsShelfOf k.files k.shelf) c.self.view_is c.self.invariant.current

pub returns-clause-hold : goal.returns-clause-hold
returns-clause-hold c = subst (λ (k : Keeping). ArePairsOf k.files k.pairs) c.self.view_is c.self.invariant.pairs
