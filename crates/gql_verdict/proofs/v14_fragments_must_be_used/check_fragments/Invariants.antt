use Rattle.std.proofs.Common.{◌≡◌, ◌++◌, ℕ, List, bytes_eq, flat_map, is_some, map, take}
use Rattle.std.specs.HashMap as hash
use Rattle.gql_verdict.specs.Borrowed.{named}
use Rattle.gql_verdict.specs.Spreads.{Names}
use Rattle.gql_verdict.specs.V14FragmentsMustBeUsed.{fault_of_fragment, is_spread}
use Rattle.gql_verdict.proofs.v14_fragments_must_be_used.check_fragments.Given as goal

abbrev pub invariant-loop-fragment : goal.invariant-loop-fragment
invariant-loop-fragment l = (names : Names)
    → ((q : List ℕ) → is_some (hash.get_by (λ k. bytes_eq q k.now) l.spread) ≡ is_spread names q)
    → l.faults.items ≡ l.initial.faults.items
    ++ flat_map (fault_of_fragment names) (map named (take l.fragment-index l.fragments))
