use Rattle.std.proofs.Common.{◌<◌, IfSome, get_or, None}
use Rattle.gql_server.specs.Rounds.{IsIdle}
use Rattle.gql_server.proofs.room.next_place.Given as goal

abbrev pub invariant-loop-number : goal.invariant-loop-number
invariant-loop-number g l =
    IfSome l.longest (λ found. (found.0 < l.fn.at_once) × IsIdle (get_or l.seats found.0 None))
