use Rattle.std.proofs.Common.{length, take, ◌-◌, ◌≡◌, ◌≤◌}
use Rattle.gql_wire.specs.Peer.{SendsAll}
use Rattle.gql_wire.proofs.peer.write_all.Given as goal

abbrev pub invariant-writes : goal.invariant-writes
invariant-writes g l = record {
  within : l.done ≤ length l.bytes;
  sent : SendsAll (g.P.Peer.transcript l.initial.peer) (g.P.Peer.transcript l.peer) (take l.done l.bytes);
  failed : g.P.Peer.write_failures l.peer ≡ g.P.Peer.write_failures l.initial.peer;
  reads : g.P.Peer.reads l.peer ≡ g.P.Peer.reads l.initial.peer;
  read_failures : g.P.Peer.read_failures l.peer ≡ g.P.Peer.read_failures l.initial.peer;
  ended : g.P.Peer.ended l.peer ≡ g.P.Peer.ended l.initial.peer;
}

abbrev pub decreases-writes : goal.decreases-writes
decreases-writes g l = length l.bytes - l.done
