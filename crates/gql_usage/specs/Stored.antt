-- The facts of what is stored, and what is known of its definitions and their verdicts.
use Rattle.std.specs.Prelude.{◌≡◌, ℕ, List, Contains}
use Rattle.gql_ast.specs.declared.definition.Definition.{Definition}
use Rattle.gql_ast.specs.declared.definition.Tree.TheVariants as tree
use Rattle.gql_facts.specs.Tables.{kept_fact}
use Rattle.gql_facts.specs.Worlds.{Facts}
use Rattle.gql_facts.specs.declared.fact.Fact.TheVariants as fact
use Rattle.gql_facts.specs.declared.fact.FragmentFact.{FragmentFact}
use Rattle.gql_facts.specs.declared.key.Key.TheVariants as key
use Rattle.gql_usage.specs.declared.stored.Stored.{Stored}
use Rattle.gql_verdict.specs.Shelves.{IsCurrent}
use Rattle.gql_verdict.specs.Verdicts.{Judgement}

-- the facts of what is stored
abbrev pub facts_of : Stored → Facts
facts_of s = kept_fact s.facts s.fragments.all

-- the definition of a fragment
abbrev pub definition_of : FragmentFact → Definition
definition_of g = record { file = g.file; tree = tree.Fragment g.fragment }

-- each fragment that is known is that of one of these definitions
abbrev pub AreDefined : Facts → List Definition → Type 0
AreDefined facts definitions = (n : List ℕ) (g : FragmentFact)
    → facts (key.FragmentOf n) ≡ fact.Fragment g → Contains definitions (definition_of g)

-- each of these definitions has a verdict that holds, and the fragments are among them
pub record AreStored (facts : Facts) (definitions : List Definition) (shelf : List Judgement)
    : Type 0 where
  pub current : IsCurrent facts definitions shelf
  pub fragments : AreDefined facts definitions

-- the definition is one of those that are stored
abbrev pub IsStored : Facts → List Judgement → Definition → Type 0
IsStored facts shelf d =
    (definitions : List Definition) × AreStored facts definitions shelf × Contains definitions d
