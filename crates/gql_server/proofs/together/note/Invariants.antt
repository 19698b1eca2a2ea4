use Rattle.std.proofs.Common.{◌≡◌, length}
use Rattle.gql_server.proofs.Noting.{NotedBelow, SameFrom}
use Rattle.gql_server.proofs.together.note.Given as goal

abbrev pub invariant-loop-number : goal.invariant-loop-number
invariant-loop-number g l = NotedBelow l.number l.report l.fn.seats l.seats
    × SameFrom l.number l.fn.seats l.seats × (length l.seats ≡ 16)
