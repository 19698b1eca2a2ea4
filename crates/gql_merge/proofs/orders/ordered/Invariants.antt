use Rattle.std.proofs.Common.{◌≡◌, [], drop}
use Rattle.gql_merge.specs.Calls.{ordered_from}
use Rattle.gql_merge.proofs.orders.ordered.Given as goal

abbrev pub invariant-loop-number : goal.invariant-loop-number
invariant-loop-number l = ordered_from l.set.entries l.number (drop l.number l.texts) ≡ ordered_from [] 0 l.texts
