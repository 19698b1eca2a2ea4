-- Helper definitions for private contracts: the answers that a walk has had, and the types that
-- they lead to.
use Rattle.std.specs.Prelude.{◌≡◌, ℕ, ◌≤◌, List, [], ◌∷◌, Contains, length, map, take, bytes_eq}
use Rattle.indexmap.specs.IndexSet.{insert_key}
use Rattle.gql_facts.specs.declared.fact.Fact.{Fact}
use Rattle.gql_facts.specs.declared.key.Key.{Key}
use Rattle.gql_facts.specs.declared.key.Key.TheVariants as key
use Rattle.gql_facts.specs.Reads.{types_in}
use Rattle.gql_facts.specs.Worlds.{Facts}
use Rattle.gql_reads.specs.Leading.{LeadsTo, names_in}
use Rattle.gql_reads.specs.Observations.{Hold, about_all}
use Rattle.gql_reads.specs.Tables.{IsAnswer}
use Rattle.gql_reads.specs.declared.observation.Answer.{Answer}
use Rattle.gql_reads.specs.declared.observation.Observation.{Observation}
use Rattle.gql_reads.specs.declared.observation.TypeAnswers.{TypeAnswers}

-- each answer is that of these facts
abbrev pub AreRight : Facts → List (Key × Fact) → Type 0
AreRight facts answers = (e : Key × Fact) → Contains answers e → e.1 ≡ facts e.0

-- an answer, as an observation
abbrev pub observation_of : Key × Fact → Observation
observation_of e = record { key = e.0; fact = e.1 }

-- names, and after them those of these that are not among them
abbrev pub add_names : List (List ℕ) → List (List ℕ) → List (List ℕ)
add_names names [] = names
add_names names (n ∷ more) = add_names (insert_key bytes_eq names n) more

-- What a walk from an answer has done: it has met the names of types that the answer leads to, has
-- asked about the first `at` of them, and met the names that their input fields have.
pub record IsLeading (facts : Facts) (f : Fact) (at : ℕ) (names : List (List ℕ))
    (types : List TypeAnswers) : Type 0 where
  pub within : at ≤ length names
  pub named : names_in types ≡ take at names
  pub hold : Hold facts (about_all types)
  pub led : (n : List ℕ) → Contains names n → LeadsTo facts f n
  pub start : (n : List ℕ) → Contains (types_in f) n → Contains names n
  pub followed : (m n : List ℕ) → Contains (take at names) m
      → Contains (types_in (facts (key.InputOf m))) n → Contains names n

-- answers to these keys, one for each, in their order
pub record AreAnswers (facts : Facts) (asked : List (Key × Fact)) (answers : List Answer)
    : Type 0 where
  pub each : map (λ (a : Answer). a.observation) answers ≡ map observation_of asked
  pub right : (a : Answer) → Contains answers a → IsAnswer facts a.observation.key a
