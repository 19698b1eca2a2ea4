use Rattle.std.proofs.Common.{◌≡◌, ℕ, List, take, bytes_eq, count_by, unwrap_or}
use Rattle.std.specs.HashMap as hash
use Rattle.gql_rules.proofs.counts.all_counts.Given as goal

abbrev pub invariant-loop-thing : goal.invariant-loop-thing
invariant-loop-thing g l = (q : List ℕ) → unwrap_or (hash.get_by (λ k. bytes_eq q k.now) l.counts) 0
    ≡ count_by (λ x. bytes_eq q (g.T.IsNamed.name x)) (take l.thing-index l.all)
