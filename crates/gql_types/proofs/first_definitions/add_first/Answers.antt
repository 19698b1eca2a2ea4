use Rattle.std.proofs.Common.{arith}
use Rattle.std.proofs.lemmas.Map.Text.{text_keys}
use Rattle.std.proofs.lemmas.Slice.Eq.{bytes_eq-Decides}
use Rattle.gql_types.specs.Sites.{site}
use Rattle.gql_types.proofs.first_definitions.add_first.Goals as goal

pub returns-in_ok-push-clause-names : goal.returns-in_ok-push-clause-names
returns-in_ok-push-clause-names c = λ q. grind (arith, text_keys)

pub returns-else-is_none-clause-names : goal.returns-else-is_none-clause-names
returns-else-is_none-clause-names c = λ q. grind (arith, text_keys, bytes_eq-Decides q (site c.args.definition.now).node.name.text, c.in_ok-insert.ensures.old)
