-- A fragment, with all that was observed of it.
use Rattle.std.specs.Prelude.{◌≡◌, ◌⊎◌, List, ◌∷◌}
use Rattle.gql_facts.specs.Members.{Lists}
use Rattle.gql_facts.specs.Reads.{Reaches, Reads}
use Rattle.gql_facts.specs.Worlds.{Facts}
use Rattle.gql_facts.specs.declared.fact.Fact.TheVariants as fact
use Rattle.gql_facts.specs.declared.fact.FragmentFact.{FragmentFact}
use Rattle.gql_facts.specs.declared.key.Key.{Key}
use Rattle.gql_facts.specs.declared.key.Key.TheVariants as key
use Rattle.gql_merge.specs.Between.{definition_of, name_of}
use Rattle.gql_reads.specs.Observations.{Hold, keys_of}
use Rattle.gql_reads.specs.declared.observation.Observation.{Observation}

-- a fragment, the fragments that it reaches, and what was observed
pub record KeptFragment : Type 0 where
  pub fragment : FragmentFact
  pub reached : List FragmentFact
  pub observations : List Observation

-- what is asked of a fragment under its name: which fragment has the name, and all that it reads
abbrev pub FragmentReads : Facts → FragmentFact → Key → Type 0
FragmentReads facts g k = (k ≡ key.FragmentOf (name_of g)) ⊎ Reads facts (definition_of g) k

-- The fragment is the one of its name, it reaches these fragments, and the keys of its observations
-- are exactly what is asked of it.
pub record IsRight (facts : Facts) (x : KeptFragment) : Type 0 where
  pub named : facts (key.FragmentOf (name_of x.fragment)) ≡ fact.Fragment x.fragment
  pub reached : Lists x.reached (Reaches facts (definition_of x.fragment))
  pub keys : Lists (keys_of x.observations) (FragmentReads facts x.fragment)

-- the fragment is right wherever its observations hold
abbrev pub IsCertified : KeptFragment → Type 0
IsCertified x = (facts : Facts) → Hold facts x.observations → IsRight facts x

-- a fragment and those that it reaches
abbrev pub with_reached : KeptFragment → List FragmentFact
with_reached x = x.fragment ∷ x.reached

-- the definition is a fragment, and the one of its name
abbrev pub IsFragmentOfName : Facts → FragmentFact → Type 0
IsFragmentOfName facts g = facts (key.FragmentOf (name_of g)) ≡ fact.Fragment g
