use Rattle.std.proofs.Common.{◌≡◌, ◌++◌, ◌-◌, ◌≤◌, length, map, take}
use Rattle.gql_intro.proofs.runs.Runs.add.Given as goal

abbrev pub invariant-pieces : goal.invariant-pieces
invariant-pieces l = record {
  few : l.from ≤ length l.names;
  names : l.self ≡ l.initial.self ++ map (λ n. n.now) (take l.from l.names);
}

abbrev pub decreases-pieces : goal.decreases-pieces
decreases-pieces l = length l.names - l.from
