-- The types that an answer leads to.
use Rattle.std.specs.Prelude.{◌≡◌, ℕ, List, map, Contains}
use Rattle.gql_facts.specs.declared.fact.Fact.{Fact}
use Rattle.gql_facts.specs.declared.key.Key.TheVariants as key
use Rattle.gql_facts.specs.Members.{Lists}
use Rattle.gql_facts.specs.Reads.{types_in}
use Rattle.gql_facts.specs.Worlds.{Facts}
use Rattle.gql_reads.specs.Observations.{Hold, about, about_all}
use Rattle.gql_reads.specs.declared.observation.Answer.{Answer}
use Rattle.gql_reads.specs.declared.observation.TypeAnswers.{TypeAnswers}

-- The types that an answer leads to: those that it names, and those that the fields of an input
-- object name that it leads to.
pub data LeadsTo (facts : Facts) (f : Fact) : List ℕ → Type 0 where
  by_name : {n : List ℕ} → Contains (types_in f) n → LeadsTo facts f n
  by_input : {m n : List ℕ} → LeadsTo facts f m
      → Contains (types_in (facts (key.InputOf m))) n → LeadsTo facts f n

-- the names of these types
abbrev pub names_in : List TypeAnswers → List (List ℕ)
names_in types = map (λ (t : TypeAnswers). t.name) types

-- wherever what was observed of the types holds, they are exactly those that the answer leads to
abbrev pub IsLed : Answer → Type 0
IsLed a = (facts : Facts) → Hold facts (about_all a.types)
    → Lists (names_in a.types) (LeadsTo facts a.observation.fact)

-- so it is for each of these answers
abbrev pub AreLed : List Answer → Type 0
AreLed answers = (a : Answer) → Contains answers a → IsLed a

-- what is known of types, each under its name, holds
pub record AreTypes (facts : Facts) (types : List (List ℕ × TypeAnswers)) : Type 0 where
  pub each : (e : List ℕ × TypeAnswers) → Contains types e → (e.1.name ≡ e.0) × Hold facts (about e.1)
