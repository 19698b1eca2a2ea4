use Rattle.std.proofs.Common.{◌≡◌, ◌≤◌, ◌-◌, take, length}
use Rattle.std.specs.Prelude.{◌==◌}
use Rattle.std.specs.List.{count_by}
use Rattle.gql_text.proofs.ends.count_of.Given as goal

abbrev pub invariant-stretches : goal.invariant-stretches
invariant-stretches l = record {
  within : l.start ≤ length l.source;
  short : length l.source ≤ 16777216;
  count : l.total ≡ count_by (λ b. b == l.wanted) (take l.start l.source);
}

abbrev pub decreases-stretches : goal.decreases-stretches
decreases-stretches l = length l.source - l.start
