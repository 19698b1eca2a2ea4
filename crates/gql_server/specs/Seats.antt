-- The seats of a server when their connections have their turns.
use Rattle.std.specs.Prelude.{ℕ, ◌≡◌, ◌<◌, ◌⊎◌, List, Bool, true, false, Option, Some, None, MatchOption, get_or}
use Rattle.gql_http.specs.declared.hub.Hub.{Hub}
use Rattle.gql_server.specs.Seated.{Seated}
use Rattle.gql_server.specs.Turns.{IsTurn, Talk}
use Rattle.gql_server.specs.declared.place.Next.{Next}
use Rattle.gql_server.specs.declared.place.Next.TheVariants.{Ready, Waits, Over}

-- whether a turn asks for another one before the next wait
abbrev pub asks_again : Next → Bool
asks_again Ready = true
asks_again Waits = false
asks_again (Over end) = false

-- whether the connection is over after a turn
abbrev pub ends : Next → Bool
ends Ready = false
ends Waits = false
ends (Over end) = true

-- a seat of the number c has its turn: it is ready afterwards only if the turn asks for another one
abbrev pub Advances : ℕ → Hub → Seated → Hub → Seated → Bool → Type 0
Advances c a old b new over = (next : Next) × IsTurn c a old.talk next b new.talk
    × (new.is_ready ≡ asks_again next) × (over ≡ ends next)

-- after a turn nobody has the seat if the connection is over; otherwise the same connection has it,
-- and it is ready only if the turn asks for another one
abbrev pub SitsAfter : Next → Talk → Option Seated → Type 0
SitsAfter next talk slot = MatchOption slot (ends next ≡ true)
    (λ seat. (ends next ≡ false) × (seat.talk ≡ talk) × (seat.is_ready ≡ asks_again next))

-- A seat that is ready has a turn. One that is not stays as it is, or its connection was quiet for
-- too long, and leaves it.
abbrev pub HasItsTurn : ℕ → Option Seated → Option Seated → Type 0
HasItsTurn c None slot = slot ≡ None
HasItsTurn c (Some seat) slot =
    (seat.is_ready ≡ true → (a b : Hub) × (next : Next) × (talk : Talk)
    × IsTurn c a seat.talk next b talk × SitsAfter next talk slot)
    × (seat.is_ready ≡ false → (slot ≡ Some seat) ⊎ (slot ≡ None))

-- each seat with a number below the bound has its turn if it is ready
abbrev pub HaveTheirTurns : ℕ → List (Option Seated) → List (Option Seated) → Type 0
HaveTheirTurns bound old new =
    (c : ℕ) → c < bound → HasItsTurn c (get_or old c None) (get_or new c None)
