use Rattle.std.proofs.Common.{◌≡◌, ◌≢◌, ◌+◌, ◌-◌, ◌^◌, ◌<◌, ◌≤◌, ℕ, min}
use Rattle.gql_http.specs.Hubs.{service_of, rests_of}
use Rattle.gql_http.proofs.Exchanging.{Exchanged}
use Rattle.gql_http.proofs.piping.exchange.Given as goal

abbrev pub invariant-loop-turn : goal.invariant-loop-turn
invariant-loop-turn g l = record {
  counted : min (g.P.Peer.reads l.peer) (2 ^ 64 - 1) ≡ min (g.P.Peer.reads l.initial.peer + l._turn) (2 ^ 64 - 1);
  bounded : 0 < l._turn → g.P.Peer.reads l.peer ≤ 2 ^ 64 - 1;
  reading : g.P.Peer.read_failures l.peer ≡ g.P.Peer.read_failures l.initial.peer;
  writing : g.P.Peer.write_failures l.peer ≡ g.P.Peer.write_failures l.initial.peer;
  others : (c : ℕ) → c ≢ 0 → rests_of l.hub c ≡ rests_of l.initial.hub c;
  exchanged : Exchanged (service_of l.initial.hub) (g.P.Peer.transcript l.initial.peer) (g.P.Peer.transcript l.peer) (service_of l.hub) (rests_of l.hub 0);
}
