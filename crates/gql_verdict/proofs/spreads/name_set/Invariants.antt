use Rattle.std.proofs.Common.{◌≡◌, ℕ, List, bytes_eq, is_some, map, take}
use Rattle.std.specs.HashMap as hash
use Rattle.gql_verdict.specs.V14FragmentsMustBeUsed.{is_spread}
use Rattle.gql_verdict.proofs.spreads.name_set.Given as goal

abbrev pub invariant-loop-name : goal.invariant-loop-name
invariant-loop-name l = (q : List ℕ) → is_some (hash.get_by (λ k. bytes_eq q k.now) l.set)
    ≡ is_spread (map (λ n. n.now.text) (take l.name-index l.names)) q
