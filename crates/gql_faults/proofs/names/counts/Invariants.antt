use Rattle.std.proofs.Common.{◌≡◌, ℕ, List, take, cond, unwrap_or, bytes_eq}
use Rattle.std.specs.HashMap as hash
use Rattle.std.specs.List.{sum_by}
use Rattle.gql_faults.specs.declared.place.NamePlace.{NamePlace}
use Rattle.gql_faults.proofs.names.counts.Given as goal

abbrev pub invariant-loop-name : goal.invariant-loop-name
invariant-loop-name l = (q : List ℕ) → unwrap_or (hash.get_by (λ k. bytes_eq q k.now) l.counts) 0
    ≡ sum_by (λ (n : NamePlace). cond (bytes_eq q n.name.now.text) 1 0) (take l.name-index l.names)
