use Rattle.gql_registry.proofs.HoldsAfter.{holds_after}
use Rattle.gql_registry.proofs.laws.holds_after.Goals as goal

pub returns : goal.returns
returns c = holds_after
