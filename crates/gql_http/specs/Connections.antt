-- The requests of a connection's bytes, answered one after the other.
use Rattle.std.specs.Prelude.{ℕ, ◌≡◌, List, [], ◌∷◌, map, take, Bool, true, false, Option, Some, None, if◌then◌else◌}
use Rattle.std.specs.List.{flat_map}
use Rattle.gql_registry.specs.State.{State}
use Rattle.gql_wire.specs.Stream.{Req, Placed, Requests, closes}
use Rattle.gql_http.specs.Limits.{limit_in}
use Rattle.gql_http.specs.Service.{Run}

-- the requests, without the offsets at which they are complete
abbrev pub requests_of : List Placed → List Req
requests_of = map (λ (p : Placed). p.request)

-- lists, one after the other
abbrev pub joined : {A : Type 0} → List (List A) → List A
joined = flat_map (λ xs. xs)

-- whether one of the requests closes the connection
abbrev pub is_closed : List Req → Bool
is_closed [] = false
is_closed (r ∷ rs) = if closes r then true else is_closed rs

-- the bytes that a connection holds after these requests; none if a request closed it
abbrev pub held_after : List Req → List ℕ → Option (List ℕ)
held_after requests bytes = if is_closed requests then None else Some bytes

-- The bytes are these requests and an unfinished rest, by the limit of bodies in the state s. Made one after the other in the state s, the
-- requests are answered with `out` and leave the state t. The rest is held unless a request closes
-- the connection.
pub record Serves (s : State) (bytes out : List ℕ) (t : State)
    (held : Option (List ℕ)) : Type 0 where
  pub requests : List Placed
  pub rest : List ℕ
  pub answers : List (List ℕ)
  pub splits : Requests (limit_in s) bytes requests rest
  pub run : Run s (requests_of requests) answers t
  pub written : out ≡ joined answers
  pub left : held ≡ held_after (requests_of requests) rest

-- An allocation failed: of the requests of the bytes, the first `made` have been made and answered,
-- and no other.
pub record Breaks (s : State) (bytes out : List ℕ) (t : State) (made : ℕ) : Type 0 where
  pub requests : List Placed
  pub rest : List ℕ
  pub answers : List (List ℕ)
  pub splits : Requests (limit_in s) bytes requests rest
  pub run : Run s (take made (requests_of requests)) answers t
  pub written : out ≡ joined answers
