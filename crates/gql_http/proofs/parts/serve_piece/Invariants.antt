use Rattle.std.proofs.Common.{◌≡◌, ◌≢◌, ℕ, List, length}
use Rattle.gql_wire.specs.Peer.{SendsAll}
use Rattle.gql_http.specs.Hubs.{service_of, rests_of}
use Rattle.gql_http.proofs.Parting.{Parted}
use Rattle.gql_http.proofs.parts.serve_piece.Given as goal

abbrev pub invariant-parts : goal.invariant-parts
invariant-parts g l = record {
  reads : g.P.Peer.reads l.peer ≡ g.P.Peer.reads l.initial.peer;
  read_failures : g.P.Peer.read_failures l.peer ≡ g.P.Peer.read_failures l.initial.peer;
  write_failures : g.P.Peer.write_failures l.peer ≡ g.P.Peer.write_failures l.initial.peer;
  ended : g.P.Peer.ended l.peer ≡ g.P.Peer.ended l.initial.peer;
  others : (c : ℕ) → c ≢ 0 → rests_of l.hub c ≡ rests_of l.initial.hub c;
  served : (out : List ℕ) × Parted (service_of l.initial.hub) (rests_of l.initial.hub 0) l.initial.piece l.rest (service_of l.hub) (rests_of l.hub 0) out
      × SendsAll (g.P.Peer.transcript l.initial.peer) (g.P.Peer.transcript l.peer) out;
}

abbrev pub decreases-parts : goal.decreases-parts
decreases-parts g l = length l.rest
