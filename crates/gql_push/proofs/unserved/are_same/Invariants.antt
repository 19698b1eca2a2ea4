use Rattle.std.proofs.Common.{◌≡◌, drop}
use Rattle.gql_push.specs.Unserved.{are_same}
use Rattle.gql_push.proofs.unserved.are_same.Given as goal

abbrev pub invariant-loop-at : goal.invariant-loop-at
invariant-loop-at l = are_same l.these l.those ≡ are_same (drop l.at l.these) (drop l.at l.those)
