use Rattle.std.proofs.Common.{filter, take}
use Rattle.gql_types.proofs.Filtering.{ArePlaces}
use Rattle.gql_types.proofs.defined_inputs.required_places.Given as goal

abbrev pub invariant-loop-place : goal.invariant-loop-place
invariant-loop-place g l = ArePlaces l.inputs l.places.items (filter g.T.DefinedInput.is_required (take l.place l.inputs))
