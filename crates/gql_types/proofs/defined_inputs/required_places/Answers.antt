use Rattle.std.proofs.Common.{◌<◌, ◌∙◌, arith, length, sym}
use Rattle.gql_types.proofs.Filtering.{place_added, place_passed}
use Rattle.gql_types.proofs.defined_inputs.required_places.Goals as goal
use Rattle.gql_types.proofs.defined_inputs.required_places.Goals.{then-is_required+in_ok-push, else-is_required}

pub loop-place-preserved : goal.loop-place-preserved
loop-place-preserved g c =
    let input = c.index-inputs-place.result in
    let within : c.loop-place.place < length c.args.inputs.now = omega (arith, c.loop-place-test.true, c.loop-place.auto.place-end) in
    elim c.if-is_required.branch [
      | then-is_required+in_ok-push w ↦ rw (w.places-is, w.in_ok-push.ensures.items) (place_added g.T.DefinedInput.is_required c.args.inputs.now c.loop-place.places.items c.loop-place.place input
          within (sym c.index-inputs-place.is) c.loop-place.invariant (sym c.is_required.ensures ∙ w.if-is_required.true))
      | else-is_required w ↦ rw w.places-is (place_passed g.T.DefinedInput.is_required c.args.inputs.now c.loop-place.places.items c.loop-place.place input
          within (sym c.index-inputs-place.is) c.loop-place.invariant (sym c.is_required.ensures ∙ w.if-is_required.false))
    ]
