use Rattle.std.proofs.Common.{◌≡◌, ℕ, List, bytes_eq, is_some, map, take}
use Rattle.std.specs.HashMap as hash
use Rattle.gql_vars.specs.Lists.{use_of, is_used}
use Rattle.gql_vars.proofs.tables.used_names.Given as goal

abbrev pub invariant-loop-used : goal.invariant-loop-used
invariant-loop-used l = (q : List ℕ) → is_some (hash.get_by (λ k. bytes_eq q k.now) l.names)
    ≡ is_used (map use_of (take l.used-index l.uses)) q
