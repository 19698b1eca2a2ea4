use Rattle.std.proofs.Common.{ℕ, List, Contains, map, take}
use Rattle.gql_merge.proofs.clean.has_names.Given as goal

abbrev pub invariant-loop-name : goal.invariant-loop-name
invariant-loop-name l = (n : List ℕ) → Contains (map (λ n. n.now) (take l.name-index l.names)) n → Contains l.clean n
