use Rattle.std.proofs.Common.{◌≡◌, [], fold, take}
use Rattle.gql_merge.specs.Calls.{with_text}
use Rattle.gql_merge.proofs.orders.once.Given as goal

abbrev pub invariant-loop-text : goal.invariant-loop-text
invariant-loop-text l = l.set.entries ≡ fold with_text [] (take l.text-index l.texts)
