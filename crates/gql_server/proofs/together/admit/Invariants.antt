use Rattle.gql_server.proofs.Rounding.{Admitting}
use Rattle.gql_server.proofs.together.admit.Given as goal

abbrev pub invariant-loop-place : goal.invariant-loop-place
invariant-loop-place g l =
    Admitting l.fn.at_once (g.N.Network.traffic l.fn.network) (g.N.Network.traffic l.network) l.fn.hub l.fn.seats l.hub l.seats l.fn.queue.left l.queue.left
