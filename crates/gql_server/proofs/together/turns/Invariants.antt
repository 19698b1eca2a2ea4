use Rattle.std.proofs.Common.{◌≡◌, ◌≤◌, ℕ, [], None, get_or, length}
use Rattle.gql_server.specs.Rooms.{Runs, talks_of}
use Rattle.gql_server.specs.Seats.{HaveTheirTurns}
use Rattle.gql_server.specs.Traffic.{Grows, Traffic}
use Rattle.gql_server.proofs.together.turns.Given as goal

abbrev pub invariant-loop-number : goal.invariant-loop-number
invariant-loop-number g l =
    ((t : Traffic) × Grows (g.N.Network.traffic l.fn.network) (g.N.Network.traffic l.network) t
    × Runs l.fn.at_once l.fn.hub (talks_of l.fn.seats) t l.hub (talks_of l.seats)
    × (t.accepted ≡ []))
    × (length l.seats ≡ 16) × HaveTheirTurns l.number l.fn.seats l.seats
    × ((c : ℕ) → l.number ≤ c → get_or l.seats c None ≡ get_or l.fn.seats c None)
