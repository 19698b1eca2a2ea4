-- The fragments that the selection sets of a definition spread, as lists.
use Rattle.std.specs.Prelude.{◌≡◌, ◌↔◌, List, Contains}
use Rattle.gql_ast.specs.declared.definition.Definition.{Definition}
use Rattle.gql_facts.specs.Worlds.{Facts}
use Rattle.gql_facts.specs.declared.fact.Fact.TheVariants as fact
use Rattle.gql_facts.specs.declared.fact.FragmentFact.{FragmentFact}
use Rattle.gql_facts.specs.declared.key.Key.TheVariants as key
use Rattle.gql_merge.specs.Between.{name_of}
use Rattle.gql_merge.specs.ByFragments.{IsPairOf}
use Rattle.gql_merge.specs.declared.spreading.SpreadSet.{SpreadSet}

-- one of the lists has both fragments
abbrev pub HasBoth : List SpreadSet → FragmentFact → FragmentFact → Type 0
HasBoth sets g h = (s : SpreadSet) × Contains sets s
    × Contains s.fragments.items g × Contains s.fragments.items h

-- Two fragments are in one of the lists exactly if one set of the definition spreads both. Each
-- fragment is the one of its name.
pub record AreSpreadSets (facts : Facts) (d : Definition) (sets : List SpreadSet) : Type 0 where
  pub pairs : (g h : FragmentFact) → IsPairOf facts d g h ↔ HasBoth sets g h
  pub named : (s : SpreadSet) (g : FragmentFact) → Contains sets s
      → Contains s.fragments.items g → facts (key.FragmentOf (name_of g)) ≡ fact.Fragment g
