use Rattle.std.proofs.Common.{◌∙◌, ◌++◌, ap, get_or, map}
use Rattle.std.specs.Prelude.{slice_get}
use Rattle.std.specs.Option.{option_to_list}
use Rattle.gql_found.proofs.Picked.{made_more}
use Rattle.gql_found.specs.EditChecks.{shown_in}
use Rattle.gql_found.proofs.edit_check.shown_at.Goals as goal

pub loop-place-preserved : goal.loop-place-preserved
loop-place-preserved c =
    let reported = c.args.reported.now in
    let old = c.loop-place.operations.items in
    let place = get_or c.args.places.now c.loop-place.place-index 0 in
    made_more (shown_in reported.found.sources.items) reported.found.affected.items c.args.places.now c.loop-place.place-index 0 old c.add_shown.new.operations.items
    c.loop-place-test.true c.loop-place.invariant
    (c.in_ok-add_shown.ensures
    ∙ ap (λ xs. old ++ map (shown_in xs) (option_to_list (slice_get c.as_slice-affected.result.now place))) c.as_slice-sources.ensures.value
    ∙ ap (λ xs. old ++ map (shown_in reported.found.sources.items) (option_to_list (slice_get xs place))) c.as_slice-affected.ensures.value)
