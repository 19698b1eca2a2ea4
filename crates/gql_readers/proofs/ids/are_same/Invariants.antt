use Rattle.std.proofs.Common.{◌≡◌, take}
use Rattle.gql_readers.proofs.ids.are_same.Given as goal

abbrev pub invariant-loop-i : goal.invariant-loop-i
invariant-loop-i l = take l.i l.ids ≡ take l.i l.others
