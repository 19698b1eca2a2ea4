use Rattle.std.proofs.Common.{◌≡◌, ◌≢◌, ℕ, List, length}
use Rattle.gql_http.specs.Hubs.{service_of, rests_of}
use Rattle.gql_http.proofs.Parting.{Parted}
use Rattle.gql_http.proofs.parts.feed_rest.Given as goal

abbrev pub invariant-parts : goal.invariant-parts
invariant-parts l = record {
  others : (c : ℕ) → c ≢ 0 → rests_of l.hub c ≡ rests_of l.initial.hub c;
  parted : (out : List ℕ) × Parted (service_of l.initial.hub) (rests_of l.initial.hub 0) l.initial.bytes l.rest (service_of l.hub) (rests_of l.hub 0) out;
}

abbrev pub decreases-parts : goal.decreases-parts
decreases-parts l = length l.rest
