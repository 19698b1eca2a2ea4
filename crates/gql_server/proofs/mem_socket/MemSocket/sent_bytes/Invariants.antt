use Rattle.std.proofs.Common.{◌≡◌, ◌++◌, map, drop}
use Rattle.gql_wire.specs.Peer.{sent_in}
use Rattle.gql_wire.specs.MemPeer.{passage}
use Rattle.gql_server.proofs.mem_socket.MemSocket.sent_bytes.Given as goal

abbrev pub invariant-loop-passed : goal.invariant-loop-passed
invariant-loop-passed l =
    sent_in (map passage l.self.passages.items)
    ≡ l.all.items ++ sent_in (map passage (drop l.passed-index l.self.passages.items))
