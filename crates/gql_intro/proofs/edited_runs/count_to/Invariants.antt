use Rattle.std.proofs.Common.{◌≡◌, ℕ, List, Contains, take}
use Rattle.std.specs.declared.cmp.Ordering.TheVariants.{Less}
use Rattle.gql_ast.specs.FileMaps.{name_order}
use Rattle.gql_intro.proofs.edited_runs.count_to.Given as goal

abbrev pub invariant-loop-count : goal.invariant-loop-count
invariant-loop-count l = (n : List ℕ) → Contains (take l.count l.names) n → name_order l.last n ≡ Less → ⊥
