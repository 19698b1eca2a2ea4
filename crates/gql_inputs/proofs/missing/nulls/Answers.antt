use Rattle.std.proofs.Common.{arith}
use Rattle.std.proofs.lemmas.Grind.{common_steps}
use Rattle.gql_inputs.proofs.missing.nulls.Goals as goal

pub loop-field-preserved : goal.loop-field-preserved
loop-field-preserved c = λ q. grind (arith, common_steps, c.loop-field.invariant q, c.in_ok-add_if_null.ensures q)
