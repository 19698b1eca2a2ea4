use Rattle.std.proofs.Common.{◌≡◌, ◌≢◌, ◌<◌, ℕ, [], map, get_or}
use Rattle.gql_cycles.specs.Path.{IsWalk}
use Rattle.gql_cycles.specs.declared.walk.State.TheVariants.{New}
use Rattle.gql_cycles.proofs.walk.cycle_marks.Given as goal

abbrev pub invariant-loop-root : goal.invariant-loop-root
invariant-loop-root l = record {
  walk : IsWalk (map (λ v. v.items) l.edges) l.walk;
  empty : l.walk.calls.items ≡ [];
  met : (v : ℕ) → v < l.root → get_or l.walk.states.items v New ≢ New;
}
