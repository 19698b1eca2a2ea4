use Rattle.std.proofs.Common.{◌≡◌, [], take, map, flat_map}
use Rattle.gql_text.specs.declared.place.Place.{Place}
use Rattle.gql_inputs.specs.BadValues.{missing}
use Rattle.gql_inputs.specs.Lookups.{required_in}
use Rattle.gql_inputs.specs.Values.{given_field}
use Rattle.gql_inputs.proofs.missing.gives_required.Given as goal

abbrev pub invariant-loop-index : goal.invariant-loop-index
invariant-loop-index g l = (place : Place) → flat_map (missing place (map given_field l.fields)) (take l.index (required_in (g.T.InputType.form l.of_type))) ≡ []
