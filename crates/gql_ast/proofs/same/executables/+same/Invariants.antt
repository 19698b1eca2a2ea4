use Rattle.std.proofs.Common.{◌≡◌, take}
use Rattle.gql_ast.proofs.same.executables.+same.Given as goal

abbrev pub invariant-same_selections-loop-i : goal.invariant-same_selections-loop-i
invariant-same_selections-loop-i l = take l.i l.items ≡ take l.i l.others
