use Rattle.std.proofs.Common.{arith, bytes_eq}
use Rattle.std.proofs.lemmas.Grind.{common_steps}
use Rattle.gql_ast.specs.declared.literal.ObjectField.{ObjectField}
use Rattle.gql_coerce.proofs.Found.{found_in}
use Rattle.gql_coerce.proofs.literal_entries.value_of.Goals as goal

pub returns-in-Some : goal.returns-in-Some
returns-in-Some c = grind (arith, common_steps, c, found_in (λ g. g.field.now) (λ (f : ObjectField). bytes_eq c.args.name.now f.name.text) c.args.given.now)

pub returns-in-None : goal.returns-in-None
returns-in-None c = grind (arith, common_steps, c, found_in (λ g. g.field.now) (λ (f : ObjectField). bytes_eq c.args.name.now f.name.text) c.args.given.now)
