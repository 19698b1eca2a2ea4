use Rattle.std.proofs.Common.{◌≡◌, ℕ, List, bytes_eq, cond, count_by, is_some, take}
use Rattle.std.specs.HashMap as hash
use Rattle.gql_verdict.proofs.naming.has_repeated.Given as goal

abbrev pub invariant-loop-one : goal.invariant-loop-one
invariant-loop-one l = (q : List ℕ) → count_by (λ n. bytes_eq q n.name.now.text) (take l.one-index l.all)
    ≡ cond (is_some (hash.get_by (λ k. bytes_eq q k.now) l.set)) 1 0
