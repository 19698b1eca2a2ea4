use Rattle.std.proofs.Common.{take}
use Rattle.gql_merge.specs.Numbers.{AreNumbersOf}
use Rattle.gql_merge.proofs.numbers.numbered_fields.Given as goal

abbrev pub invariant-loop-place : goal.invariant-loop-place
invariant-loop-place l = AreNumbersOf l.all (take l.place l.all) l.fields.items
