use Rattle.std.proofs.Common.{◌≡◌, ◌<◌, ℕ, [], None, length}
use Rattle.gql_http.specs.Hubs.{rests_of}
use Rattle.gql_server.specs.Rooms.{AreOver, Runs, talks_of}
use Rattle.gql_server.specs.Traffic.{Grows, Traffic}
use Rattle.gql_server.proofs.together.leave_all.Given as goal

abbrev pub invariant-loop-number : goal.invariant-loop-number
invariant-loop-number g l =
    ((t : Traffic) × Grows (g.N.Network.traffic l.fn.network) (g.N.Network.traffic l.network) t
    × Runs l.fn.at_once l.fn.hub (talks_of l.fn.seats) t l.hub (talks_of l.seats)
    × (t.accepted ≡ []))
    × (length l.seats ≡ 16) × AreOver l.number (talks_of l.seats)
    × ((c : ℕ) → c < l.number → rests_of l.hub c ≡ None)
