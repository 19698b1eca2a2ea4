use Rattle.std.proofs.Common.{length}
use Rattle.gql_inputs.proofs.steps.+item_of.Given as goal

abbrev pub decreases-item_of : goal.decreases-item_of
decreases-item_of l = length l.steps.now
