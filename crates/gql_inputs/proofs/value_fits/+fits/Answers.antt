use Rattle.std.proofs.Common.{◌≡◌, ◌<◌, false, length, arith, map, ap, sym, ◌∙◌}
use Rattle.std.proofs.lemmas.Grind.{common_steps}
use Rattle.std.proofs.lemmas.List.Folds.{flat_map-map}
use Rattle.gql_inputs.specs.BadValues.{field_misfits, item_misfits}
use Rattle.gql_inputs.specs.ExpectedTypes.{written_of}
use Rattle.gql_inputs.specs.Lookups.{fields_in}
use Rattle.gql_inputs.specs.NothingFound.{is_clean}
use Rattle.gql_inputs.specs.Values.{given_field, value_of}
use Rattle.gql_inputs.proofs.CleanLists.{found_at}
use Rattle.gql_inputs.proofs.Judged.{known_as, object_at_input}
use Rattle.gql_inputs.proofs.value_fits.+fits.Goals as goal

pub object_fits-returns-in-InputObject-clause-fits : goal.object_fits-returns-in-InputObject-clause-fits
object_fits-returns-in-InputObject-clause-fits g t c =
    let look = g.A.InputTypes.look c.args.types.now in
    let form = g.A.Answer.InputType.form in
    let known = ap look (sym c.name.ensures) ∙ known_as form _ c.in-Some.found_type _ c.in_ok-input_type.ensures.answer c.in-Some.is in
    rw (object_at_input look (written_of c.args.of_type) c.args.place (map given_field c.args.fields.now) (form c.in-Some.found_type) known c.in-InputObject.ensures)
    (grind (arith, common_steps, c.input_type.ensures.look, c.input_object_fits.ensures.fits))

pub fields_fit-returns-then-not-branch-clause-fits : goal.fields_fit-returns-then-not-branch-clause-fits
fields_fit-returns-then-not-branch-clause-fits g t c =
    let look = g.A.InputTypes.look c.args.types.now in
    let defined = fields_in (g.A.Answer.InputType.form c.args.of_type.now) in
    let within : c.loop-field.field-index < length c.args.fields.now = grind (arith, common_steps, c.loop-field-test, c.loop-field.auto) in
    let bad : is_clean (field_misfits look defined (given_field c.field-item.result)) ≡ false = grind (arith, common_steps, c.loop-field.invariant.same_look, c.in_ok-field_fits.ensures.fits, c.if-not-branch.true) in
    found_at (λ x. field_misfits look defined (given_field x)) c.args.fields.now c.loop-field.field-index c.field-item.result c.field-item.is within bad
    ∙ ap is_clean (sym (flat_map-map (field_misfits look defined) given_field c.args.fields.now))

pub items_fit-returns-then-not-branch-clause-fits : goal.items_fit-returns-then-not-branch-clause-fits
items_fit-returns-then-not-branch-clause-fits g t c =
    let look = g.A.InputTypes.look c.args.types.now in
    let within : c.loop-item.item-index < length c.args.items.now = grind (arith, common_steps, c.loop-item-test, c.loop-item.auto) in
    let bad : is_clean (item_misfits look (written_of c.args.of_type) (value_of c.item-item.result)) ≡ false = grind (arith, common_steps, c.loop-item.invariant.same_look, c.in_ok-item_fits.ensures.fits, c.if-not-branch.true) in
    found_at (λ x. item_misfits look (written_of c.args.of_type) (value_of x)) c.args.items.now c.loop-item.item-index c.item-item.result c.item-item.is within bad
