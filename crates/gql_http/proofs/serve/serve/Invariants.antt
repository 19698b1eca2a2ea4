use Rattle.std.proofs.Common.{◌≡◌, ◌++◌, ◌-◌, ◌≤◌, length, drop}
use Rattle.gql_registry.specs.State.{profile_of, state_of}
use Rattle.gql_http.specs.Limits.{limit_in}
use Rattle.gql_http.proofs.Serving.{Served}
use Rattle.gql_http.proofs.serve.serve.Given as goal

abbrev pub invariant-requests : goal.invariant-requests
invariant-requests l = record {
  within : l.at ≤ length l.piece;
  same : l.framer.limit ≡ l.initial.framer.limit;
  limit : l.framer.limit ≡ limit_in (state_of l.initial.registry);
  profile : profile_of (state_of l.registry) ≡ profile_of (state_of l.initial.registry);
  served : Served (state_of l.initial.registry) (l.initial.framer.bytes ++ l.piece) (l.framer.bytes ++ drop l.at l.piece) (state_of l.registry) l.out.items;
}

abbrev pub decreases-requests : goal.decreases-requests
decreases-requests l = length l.piece - l.at
