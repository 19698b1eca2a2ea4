use Rattle.std.proofs.Common.{◌≤◌, ◌<◌, ◌+◌, ◌-◌, length, take}
use Rattle.gql_intro.specs.Runs.{names_of}
use Rattle.gql_intro.proofs.runs.run_of.Given as goal

abbrev pub invariant-search : goal.invariant-search
invariant-search l = record {
  ordered : l.low ≤ l.high;
  few : l.high ≤ length l.runs;
  before : length (names_of (take l.low l.runs)) ≤ l.index;
  within : l.high < length l.runs → l.index < length (names_of (take (l.high + 1) l.runs));
}

abbrev pub decreases-search : goal.decreases-search
decreases-search l = l.high - l.low
