-- What happens to connections, and what the hub does at each event.
use Rattle.std.specs.Prelude.{ℕ, ◌≡◌, ◌<◌, List, [], ◌∷◌, ◌++◌, Option, Some, None, IsSome, ◌==◌, if◌then◌else◌}
use Rattle.gql_registry.specs.State.{State}
use Rattle.gql_http.specs.Connections.{Serves, Breaks}
use Rattle.gql_http.specs.declared.hub.TheConstants.{CONNECTIONS}

-- an event on the connection of a number
pub data Event : Type 0 where
  -- it is opened
  opens : ℕ → Event
  -- it is fed a piece of bytes
  feeds : ℕ → List ℕ → Event
  -- it is fed a piece of bytes, and an allocation fails after this many of the requests that the
  -- piece completes
  breaks : ℕ → List ℕ → ℕ → Event
  -- it is closed
  closes : ℕ → Event

-- the number of the event's connection
abbrev pub connection_of : Event → ℕ
connection_of (opens c) = c
connection_of (feeds c piece) = c
connection_of (breaks c piece made) = c
connection_of (closes c) = c

-- the bytes of each open connection; none for a closed one
abbrev pub Connections : Type 0
Connections = ℕ → Option (List ℕ)

-- every connection is closed
abbrev pub all_closed : Connections
all_closed c = None

-- the connections, one of which is changed
abbrev pub with_connection : Connections → ℕ → Option (List ℕ) → Connections
with_connection all c bytes = λ other. if other == c then bytes else all other

-- An event is allowed if it opens a closed connection with a number below 16, or feeds or closes an
-- open one. Every other event does nothing.
abbrev pub IsAllowed : Connections → Event → Type 0
IsAllowed all (opens c) = (c < CONNECTIONS) × (all c ≡ None)
IsAllowed all (feeds c piece) = IsSome (all c)
IsAllowed all (breaks c piece made) = IsSome (all c)
IsAllowed all (closes c) = IsSome (all c)

-- What the hub does at one event in the state s, where the connections hold these unfinished bytes:
-- the bytes that it answers on the event's connection, and the state and the unfinished bytes after
-- it. All other connections stay as they were.
pub data Does : State → Connections → Event → List ℕ → State → Connections → Type 0 where
  does_open : {s : State} {rests : Connections} {c : ℕ} → IsAllowed rests (opens c)
      → Does s rests (opens c) [] s (with_connection rests c (Some []))
  does_feed : {s t : State} {rests : Connections} {c : ℕ} {piece held out : List ℕ}
      {rest : Option (List ℕ)} → rests c ≡ Some held
      → Serves s (held ++ piece) out t rest
      → Does s rests (feeds c piece) out t (with_connection rests c rest)
  does_break : {s t : State} {rests : Connections} {c made : ℕ} {piece held out : List ℕ}
      → rests c ≡ Some held
      → Breaks s (held ++ piece) out t made
      → Does s rests (breaks c piece made) out t (with_connection rests c None)
  does_close : {s : State} {rests : Connections} {c : ℕ} → IsAllowed rests (closes c)
      → Does s rests (closes c) [] s (with_connection rests c None)
  ignores : {s : State} {rests : Connections} {e : Event} → (IsAllowed rests e → ⊥)
      → Does s rests e [] s rests

-- what the hub does at events one after the other: the bytes that it answers at each
pub data Behaves : State → Connections → List Event → List (List ℕ) → State → Connections
    → Type 0 where
  does_nothing : {s : State} {rests : Connections} → Behaves s rests [] [] s rests
  does_first : {s t u : State} {rests between last : Connections} {e : Event} {out : List ℕ}
      {events : List Event} {outs : List (List ℕ)}
      → Does s rests e out t between → Behaves t between events outs u last
      → Behaves s rests (e ∷ events) (out ∷ outs) u last
