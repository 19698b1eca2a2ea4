use Rattle.std.proofs.Common.{arith}
use Rattle.std.proofs.lemmas.Grind.{text_groups}
use Rattle.gql_schema_rules.proofs.s25_shared_root_types.remember.Goals as goal

pub returns : goal.returns
returns c = λ q. grind (arith, text_groups)
