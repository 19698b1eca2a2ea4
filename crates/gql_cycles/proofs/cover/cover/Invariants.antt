use Rattle.std.proofs.Common.{ℕ, ◌*◌, ◌<◌, ◌↔◌, Contains, take}
use Rattle.gql_cycles.specs.Cover.{IsAbove, IsWithinAny}
use Rattle.gql_cycles.proofs.cover.cover.Given as goal

abbrev pub invariant-loop-range : goal.invariant-loop-range
invariant-loop-range l = record {
  within : (v : ℕ) → Contains l.segments.items v → v < 2 * l.count;
  above : (p : ℕ) → IsAbove l.count l.segments.items p ↔ ((p < l.count) × IsWithinAny (take l.range-index l.ranges) p);
}
