use Rattle.std.proofs.Common.{◌≡◌, ℕ, ◌≤◌, ◌<◌, ◌++◌, length, map, take, drop, get_or}
use Rattle.gql_verdict.specs.Slots.{resolve}
use Rattle.gql_verdict.specs.declared.slot.Slot.TheVariants.{At}
use Rattle.gql_verdict.proofs.slot.fill.Given as goal

abbrev pub invariant-loop-step : goal.invariant-loop-step
invariant-loop-step l = record {
  so_far : l.steps ≡ map (resolve l.fn.kept) (take l.step-index l.fn.steps) ++ drop l.step-index l.fn.steps;
  still : (k j : ℕ) → l.step-index ≤ k → k < length l.fn.steps → get_or l.fn.steps k (At j) ≡ At j → get_or l.kept j (At j) ≡ get_or l.fn.kept j (At j);
}
