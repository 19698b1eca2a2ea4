use Rattle.std.proofs.Common.{◌≡◌, ℕ, List, map, take, is_some, bytes_eq, if◌then◌else◌}
use Rattle.std.specs.HashMap as hash
use Rattle.gql_faults.specs.Names.{count_of}
use Rattle.gql_faults.specs.Places.{named}
use Rattle.gql_schema_rules.proofs.distinct_names.are_distinct.Given as goal

-- each name so far occurs once
abbrev pub invariant-loop-name : goal.invariant-loop-name
invariant-loop-name l = (q : List ℕ) → count_of q (map named (take l.name-index l.names))
    ≡ (if is_some (hash.get_by (λ k. bytes_eq q k.now) l.seen) then 1 else 0)
