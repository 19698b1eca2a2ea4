use Rattle.std.proofs.Common.{◌≡◌, ◌+◌, length}
use Rattle.gql_server.specs.Rounds.{Rounds}
use Rattle.gql_server.specs.Traffic.{Grows, Traffic}
use Rattle.gql_server.proofs.together.serve_all.Given as goal

abbrev pub invariant-loop-round : goal.invariant-loop-round
invariant-loop-round g l =
    (t : Traffic) × Grows (g.N.Network.traffic l.fn.network) (g.N.Network.traffic l.network) t
    × Rounds l.fn.at_once l.fn.hub l.fn.seats t l.hub l.seats
    × (length t.accepted + l.queue.left ≡ l.fn.connections)
