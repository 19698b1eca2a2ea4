-- What an edit of a schema file may change: what is known of the types that the file defines or
-- extends before or after it, the possible types of interfaces and unions, directives and root
-- operation types. It changes no definition of a document file.
use Rattle.std.specs.Prelude.{◌≡◌, ◌⊎◌, ℕ, List, ◌++◌, Contains, Option, option_and_then}
use Rattle.gql_facts.specs.Tables.{type_in}
use Rattle.gql_facts.specs.declared.schema_facts.SchemaFacts.{SchemaFacts}
use Rattle.gql_facts.specs.declared.schema_facts.TypeEntry.{TypeEntry}
use Rattle.gql_verdict.specs.declared.touched.Touched.{Touched}
use Rattle.gql_verdict.specs.declared.touched.Touched.TheVariants as touched

-- the possible types of the type of this name, if it is composite
abbrev pub possible_in : SchemaFacts → List ℕ → Option (List (List ℕ))
possible_in facts t = option_and_then (λ (e : TypeEntry). e.possible) (type_in facts t)

-- a type has the possible types that the type of its name had before
abbrev pub IsSamePossible : SchemaFacts → TypeEntry → Type 0
IsSamePossible before e = e.possible ≡ possible_in before e.name

-- these are the names of those types that have other possible types than before
pub record AreMoved (before : SchemaFacts) (types : List TypeEntry) (names : List (List ℕ))
    : Type 0 where
  pub from : (n : List ℕ) → Contains names n
      → (e : TypeEntry) × Contains types e × (e.name ≡ n) × (IsSamePossible before e → ⊥)
  pub to : (e : TypeEntry) → Contains types e → IsSamePossible before e ⊎ Contains names e.name

-- what an edit that changes types of these names touches, by the facts of the schema before and
-- after it: these types, and those that have other possible types than before
abbrev pub IsTouchedBySchema : SchemaFacts → SchemaFacts → List (List ℕ) → Touched → Type 0
IsTouchedBySchema before after edited t = (moved : List (List ℕ)) × AreMoved before after.types moved
    × (t ≡ touched.Schema (record { types = edited ++ moved }))
