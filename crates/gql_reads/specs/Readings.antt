-- What was observed of a definition: its own record, and one of each fragment that it reaches.
use Rattle.std.specs.Prelude.{◌≡◌, ◌++◌, ℕ, List, Contains, Some, flat_map, map}
use Rattle.gql_facts.specs.declared.fact.FragmentFact.{FragmentFact}
use Rattle.gql_facts.specs.declared.fact.Fact.TheVariants as fact
use Rattle.gql_facts.specs.declared.key.Key.TheVariants as key
use Rattle.gql_reads.specs.Observations.{observed_in}
use Rattle.gql_reads.specs.Records.{Kept}
use Rattle.gql_reads.specs.Tables.{Entries, entry_at}
use Rattle.gql_reads.specs.declared.observation.Answer.{Answer}
use Rattle.gql_reads.specs.declared.observation.Observation.{Observation}
use Rattle.gql_reads.specs.declared.reading.Reading.{Reading}

-- the name of the fragment of a part
abbrev pub name_of : FragmentFact → List ℕ
name_of g = g.fragment.name.text

-- the observations of these parts
abbrev pub seen_in : List Kept → List Observation
seen_in parts = flat_map (λ (p : Kept). observed_in p.seen) parts

-- all observations, as one list
abbrev pub flat : Reading → List Observation
flat r = observed_in r.own.record ++ seen_in r.parts.items

-- all answers, as one list
abbrev pub answers_in : Reading → List Answer
answers_in r = r.own.record ++ flat_map (λ (p : Kept). p.seen) r.parts.items

-- the fragments of these parts
abbrev pub members_of : List Kept → List FragmentFact
members_of parts = map (λ (p : Kept). p.fragment) parts

-- the observation that the name of a fragment is that of the fragment
abbrev pub own_name : FragmentFact → Observation
own_name g = record { key = key.FragmentOf (name_of g); fact = fact.Fragment g }

-- each part is the entry of its fragment's name, and it was observed that this is the fragment of
-- that name
abbrev pub AreShared : Entries → Reading → Type 0
AreShared entries r = (p : Kept) → Contains r.parts.items p
    → (entry_at entries (name_of p.fragment) ≡ Some p) × Contains (flat r) (own_name p.fragment)
