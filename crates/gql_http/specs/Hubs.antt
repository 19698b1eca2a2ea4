-- What a hub holds: the state of the service, and the unfinished bytes of each open connection.
use Rattle.std.specs.Prelude.{ℕ, ◌≡◌, List, Option, Some, None, Bool, true, false, nat_lt, length, get_or}
use Rattle.gql_registry.specs.State.{State}
use Rattle.gql_registry.specs.State as registry
use Rattle.gql_http.specs.Events.{Event, feeds, breaks, Connections}
use Rattle.gql_http.specs.Limits.{bytes_of}
use Rattle.gql_http.specs.declared.hub.Hub.{Hub}

-- the state of the service
abbrev pub service_of : Hub → State
service_of hub = registry.state_of hub.registry

-- the unfinished bytes of each connection; none for a closed one
abbrev pub rests_of : Hub → Connections
rests_of hub = λ c. bytes_of (get_or hub.framers c None)

-- whether bytes of an unfinished request are held
abbrev pub is_unfinished : Option (List ℕ) → Bool
is_unfinished None = false
is_unfinished (Some bytes) = nat_lt 0 (length bytes)

-- the event of a call of `feed`, by whether the call reports that an allocation failed
abbrev pub IsFeedOf : ℕ → List ℕ → Bool → Event → Type 0
IsFeedOf c piece false e = e ≡ feeds c piece
IsFeedOf c piece true e = (made : ℕ) × (e ≡ breaks c piece made)
