use Rattle.std.proofs.Common.{length}
use Rattle.gql_inputs.proofs.steps.+one_of.Given as goal

abbrev pub decreases-one_of : goal.decreases-one_of
decreases-one_of l = length l.steps.now
