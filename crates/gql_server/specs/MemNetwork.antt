-- A network in memory: what it reports.
use Rattle.std.specs.Prelude.{ℕ, List, [], Bool, true, false, Option, Some, None, map}
use Rattle.gql_wire.specs.MemPeer.{passage}
use Rattle.gql_server.specs.Traffic.{Line, Traffic}
use Rattle.gql_server.specs.declared.mem_network.MemNetwork.{MemNetwork}
use Rattle.gql_server.specs.declared.mem_socket.MemSocket.{MemSocket}
use Rattle.gql_server.specs.declared.report.Report.{Report}

-- what is known of a socket in memory
abbrev pub line_in : MemSocket → Line
line_in s = record {
  transcript = Some (map passage s.passages.items);
  has_failed = s.has_failed;
  ended = s.ended;
  waits = s.waits;
}

-- what is known of one that has just been accepted
abbrev pub new_line : Line
new_line = record { transcript = Some []; has_failed = false; ended = false; waits = 0 }

-- what a network reports, if it holds all that it did: which connections were accepted, the sockets
-- that were taken back, and what the waits reported
abbrev pub known : Bool → List ℕ → List MemSocket → List Report → Option Traffic
known false accepted returned reports = None
known true accepted returned reports = Some (record {
  accepted = map (λ (place : ℕ). new_line) accepted;
  returned = map line_in returned;
  reports = reports;
})

-- what a network in memory reports
abbrev pub traffic_of : MemNetwork → Option Traffic
traffic_of n = known n.is_whole n.accepted.items n.returned.items n.reports.items
