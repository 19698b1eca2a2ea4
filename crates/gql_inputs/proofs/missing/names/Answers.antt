use Rattle.std.proofs.Common.{arith}
use Rattle.std.proofs.lemmas.Map.Text.{text_keys}
use Rattle.std.proofs.lemmas.Grind.{common_steps}
use Rattle.gql_inputs.proofs.missing.names.Goals as goal

pub loop-field-preserved : goal.loop-field-preserved
loop-field-preserved c = λ q. grind (arith, common_steps, text_keys, c.loop-field.invariant q)
