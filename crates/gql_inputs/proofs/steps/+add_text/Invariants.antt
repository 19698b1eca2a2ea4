use Rattle.std.proofs.Common.{length}
use Rattle.gql_inputs.proofs.steps.+add_text.Given as goal

abbrev pub decreases-add_text : goal.decreases-add_text
decreases-add_text l = length l.steps.now
