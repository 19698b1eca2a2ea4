use Rattle.std.proofs.Common.{arith}
use Rattle.std.proofs.lemmas.Grind.{common_steps}
use Rattle.gql_coerce.proofs.literal_entries.defined_entries.Goals as goal

pub loop-definition-preserved : goal.loop-definition-preserved
loop-definition-preserved c = λ vs. grind (arith, common_steps, c.loop-definition.invariant vs, c.defined_entry.ensures vs)
