-- The order of requests: those of all connections, each at the event that completes it.
use Rattle.std.specs.Prelude.{ℕ, ◌≡◌, List, [], ◌∷◌, ◌++◌, length, map, take, filter, nat_lt, Some, None, ◌==◌, if◌then◌else◌}
use Rattle.gql_registry.specs.State.{State}
use Rattle.gql_wire.specs.Stream.{Req, Placed, Requests}
use Rattle.gql_http.specs.Connections.{requests_of, joined, held_after}
use Rattle.gql_http.specs.Events.{Event, opens, feeds, breaks, closes, connection_of, Connections, with_connection, IsAllowed}
use Rattle.gql_http.specs.Service.{Run}

-- the requests of a connection that are complete after this offset and not before
abbrev pub completed_after : ℕ → List Placed → List Req
completed_after offset requests =
    requests_of (filter (λ (p : Placed). nat_lt offset p.end) requests)

-- The requests that an event completes; `fed` has all bytes that each open connection was fed since
-- it was opened. They are the requests of all these bytes that end in the event's piece; if an
-- allocation fails, only the first of them count. A connection is closed by a request that closes
-- it, by a failed allocation and by an event; an opening begins its bytes anew. `limit` is the most
-- bytes of a body.
pub data Completes (limit : ℕ) : Connections → Event → List Req → Connections → Type 0 where
  by_open : {fed : Connections} {c : ℕ} → IsAllowed fed (opens c)
      → Completes limit fed (opens c) [] (with_connection fed c (Some []))
  by_feed : {fed : Connections} {c : ℕ} {piece bytes rest : List ℕ} {requests : List Placed}
      → fed c ≡ Some bytes
      → Requests limit (bytes ++ piece) requests rest
      → Completes limit fed (feeds c piece) (completed_after (length bytes) requests)
      (with_connection fed c (held_after (requests_of requests) (bytes ++ piece)))
  by_break : {fed : Connections} {c made : ℕ} {piece bytes rest : List ℕ} {requests : List Placed}
      → fed c ≡ Some bytes
      → Requests limit (bytes ++ piece) requests rest
      → Completes limit fed (breaks c piece made)
      (take made (completed_after (length bytes) requests)) (with_connection fed c None)
  by_close : {fed : Connections} {c : ℕ} → IsAllowed fed (closes c)
      → Completes limit fed (closes c) [] (with_connection fed c None)
  by_none : {fed : Connections} {e : Event} → (IsAllowed fed e → ⊥) → Completes limit fed e [] fed

-- the requests that each of the events completes
pub data Order (limit : ℕ) : Connections → List Event → List (List Req) → Connections → Type 0 where
  no_events : {fed : Connections} → Order limit fed [] [] fed
  first : {fed between last : Connections} {e : Event} {group : List Req} {events : List Event}
      {groups : List (List Req)}
      → Completes limit fed e group between → Order limit between events groups last
      → Order limit fed (e ∷ events) (group ∷ groups) last

-- the items that belong to events on this connection; there is one item for each event
abbrev pub on : {A : Type 0} → ℕ → List Event → List A → List A
on c [] xs = []
on c (e ∷ events) [] = []
on c (e ∷ events) (x ∷ xs) = if connection_of e == c then x ∷ on c events xs else on c events xs

-- each group of requests has as many answers
abbrev pub SameLengths : List (List Req) → List (List (List ℕ)) → Type 0
SameLengths [] [] = Unit {0}
SameLengths [] (a ∷ answers) = ⊥
SameLengths (g ∷ groups) [] = ⊥
SameLengths (g ∷ groups) (a ∷ answers) = (length g ≡ length a) × SameLengths groups answers

-- The answers to the requests of these groups, which are run one after the other, and how they are
-- given out: at each event the answers to the requests that it completes, and so on each connection
-- the answers to its own requests.
pub record Answers (s : State) (events : List Event) (groups : List (List Req))
    (outs : List (List ℕ)) (t : State) : Type 0 where
  pub answers : List (List (List ℕ))
  pub run : Run s (joined groups) (joined answers) t
  pub each : SameLengths groups answers
  pub given : outs ≡ map joined answers
  pub shares : (c : ℕ) → joined (on c events outs) ≡ joined (joined (on c events answers))
