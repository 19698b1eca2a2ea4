use Rattle.std.proofs.Common.{◌≡◌, ◌++◌, List, map}
use Rattle.std.specs.Vec.Iter.{into_iter_items}
use Rattle.gql_merge.specs.declared.bad_pair.BadPair.{BadPair}
use Rattle.gql_merge.specs.declared.two_fragments.FragmentClash.{FragmentClash}
use Rattle.gql_merge.proofs.two_fragments.add_named.Given as goal

abbrev pub invariant-loop-pair : goal.invariant-loop-pair
invariant-loop-pair l = ◌≡◌ {A = List FragmentClash}
    (l.found.items ++ map (λ (b : BadPair). record { first = l.first; second = l.second; bad = b }) (into_iter_items l.pair-iterator))
    (l.initial.found.items ++ map (λ (b : BadPair). record { first = l.first; second = l.second; bad = b }) l.fn.bad.items)
