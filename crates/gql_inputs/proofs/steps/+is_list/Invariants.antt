use Rattle.std.proofs.Common.{length}
use Rattle.gql_inputs.proofs.steps.+is_list.Given as goal

abbrev pub decreases-is_list : goal.decreases-is_list
decreases-is_list l = length l.steps.now
