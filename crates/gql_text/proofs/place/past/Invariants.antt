use Rattle.std.proofs.Common.{◌≡◌, ◌+◌, take}
use Rattle.gql_text.specs.Place.{place_after}
use Rattle.gql_text.proofs.place.past.Given as goal

abbrev pub invariant-loop-step : goal.invariant-loop-step
invariant-loop-step l = (l.place ≡ place_after (take (l.initial.place.offset + l._step) l.source)) × (l.place.offset ≡ l.initial.place.offset + l._step)
