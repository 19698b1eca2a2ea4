-- Selection sets whose selections merge without faults (GraphQL 5.3.2), and fragments whose own
-- selection set is one.
use Rattle.std.specs.Prelude.{◌≡◌, ℕ, List, [], ◌∷◌, Contains}
use Rattle.gql_clashes.specs.Clashes.{IsClash, SeedsOf}
use Rattle.gql_clashes.specs.declared.sets.Mode.{Mode}
use Rattle.gql_facts.specs.Worlds.{Facts}
use Rattle.gql_facts.specs.declared.fact.Fact.TheVariants as fact
use Rattle.gql_facts.specs.declared.fact.FragmentFact.{FragmentFact}
use Rattle.gql_facts.specs.declared.key.Key.TheVariants as key
use Rattle.gql_merge.specs.FieldNodes.{FieldNode, SetNode}
use Rattle.gql_merge.specs.MergedNodes.{fragment_set, nodes}

-- no two fields clash where the selections of each of these sets are merged
abbrev pub IsClean : Facts → List SetNode → Type 0
IsClean facts sets = (f g : FieldNode) → (m : Mode)
    → IsClash (nodes facts) (SeedsOf (nodes facts) sets) f g m → ⊥

-- the selection sets of the fragments of these names are clean
abbrev pub AreClean : Facts → List (List ℕ) → Type 0
AreClean facts names = (n : List ℕ) → (g : FragmentFact) → Contains names n
    → facts (key.FragmentOf n) ≡ fact.Fragment g → IsClean facts (fragment_set facts g ∷ [])
