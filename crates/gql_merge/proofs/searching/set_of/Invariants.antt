use Rattle.std.proofs.Common.{ℕ, Contains, take}
use Rattle.gql_merge.proofs.searching.set_of.Given as goal

abbrev pub invariant-loop-number : goal.invariant-loop-number
invariant-loop-number l = (n : ℕ) → Contains l.set.keys n → Contains (take l.number-index l.numbers) n
