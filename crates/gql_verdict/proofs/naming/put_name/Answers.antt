use Rattle.std.proofs.Common.{arith}
use Rattle.std.proofs.lemmas.Grind.{common_steps}
use Rattle.std.proofs.lemmas.Map.Text.{text_keys}
use Rattle.gql_verdict.proofs.naming.put_name.Goals as goal

pub returns-clause-names : goal.returns-clause-names
returns-clause-names c = λ q. grind (arith, common_steps, text_keys)
