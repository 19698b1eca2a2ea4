use Rattle.std.proofs.Common.{◌≡◌, take}
use Rattle.gql_collect.specs.Borrowed.{all_selections}
use Rattle.gql_steps.proofs.equal_sets.are_equal_sets.Given as goal

abbrev pub invariant-loop-i : goal.invariant-loop-i
invariant-loop-i l = all_selections (take l.i l.sets) ≡ all_selections (take l.i l.others)
