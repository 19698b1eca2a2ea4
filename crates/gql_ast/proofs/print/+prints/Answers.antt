use Rattle.std.proofs.Common.{arith}
use Rattle.std.proofs.lemmas.Grind.{common_steps}
use Rattle.gql_ast.specs.LiteralTexts.{text_list, text_object, text_variable}
use Rattle.gql_ast.proofs.print.+prints.Goals as goal

pub write_literal-returns-in_ok-extend_from_slice-in-Variable :
    goal.write_literal-returns-in_ok-extend_from_slice-in-Variable
write_literal-returns-in_ok-extend_from_slice-in-Variable t c =
    rw (c.in-Variable.is, text_variable c.in-Variable.place c.in-Variable.name)
    (grind (arith, common_steps, c))

pub write_literal-returns-in_ok-push-in-List-2 : goal.write_literal-returns-in_ok-push-in-List-2
write_literal-returns-in_ok-push-in-List-2 t c =
    rw (c.in-List.is, text_list c.in-List.place c.in-List.items) (grind (arith, common_steps, c))

pub write_literal-returns-in_ok-push-in-Object-2 :
    goal.write_literal-returns-in_ok-push-in-Object-2
write_literal-returns-in_ok-push-in-Object-2 t c =
    rw (c.in-Object.is, text_object c.in-Object.place c.in-Object.fields)
    (grind (arith, common_steps, c))
