use Rattle.std.proofs.Common.{arith, map, ap, sym, ◌∙◌}
use Rattle.std.proofs.lemmas.Grind.{common_steps}
use Rattle.gql_inputs.specs.ExpectedTypes.{written_of}
use Rattle.gql_inputs.specs.Values.{given_field}
use Rattle.gql_inputs.proofs.Judged.{known_as, object_at_input}
use Rattle.gql_inputs.proofs.misfits.+misfits.Goals as goal

pub add_object-returns-in-InputObject-clause-found : goal.add_object-returns-in-InputObject-clause-found
add_object-returns-in-InputObject-clause-found g t c =
    let look = g.A.InputTypes.look c.args.types.now in
    let form = g.A.Answer.InputType.form in
    let known = ap look (sym c.name.ensures) ∙ known_as form _ c.in-Some.found_type _ c.in_ok-input_type.ensures.answer c.in-Some.is in
    rw (object_at_input look (written_of c.args.of_type) c.args.place (map given_field c.args.fields.now) (form c.in-Some.found_type) known c.in-InputObject.ensures)
    (grind (arith, common_steps, c.input_type.ensures.look, c.in_ok-add_fields-in-InputObject.ensures.found, c.add_missing.ensures))
