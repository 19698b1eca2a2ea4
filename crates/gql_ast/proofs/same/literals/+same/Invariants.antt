use Rattle.std.proofs.Common.{◌≡◌, take}
use Rattle.gql_ast.proofs.same.literals.+same.Given as goal

abbrev pub invariant-same_literals-loop-i : goal.invariant-same_literals-loop-i
invariant-same_literals-loop-i l = take l.i l.items ≡ take l.i l.others

abbrev pub invariant-same_fields-loop-i : goal.invariant-same_fields-loop-i
invariant-same_fields-loop-i l = take l.i l.items ≡ take l.i l.others
