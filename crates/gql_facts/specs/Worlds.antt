-- Worlds: which facts answer a key, the laws of a world, and its record.
use Rattle.std.specs.Prelude.{◌≡◌, ◌≢◌, ℕ, List, [], Contains, Option}
use Rattle.std.specs.Option.{option_map_or}
use Rattle.gql_facts.specs.declared.fact.Fact.{Fact}
use Rattle.gql_facts.specs.declared.fact.Fact.TheVariants as fact
use Rattle.gql_facts.specs.declared.fact.FragmentFact.{FragmentFact}
use Rattle.gql_facts.specs.declared.key.Key.{Key}
use Rattle.gql_facts.specs.declared.key.Key.TheVariants as key
use Rattle.gql_facts.specs.Keys.{is_key}
use Rattle.indexmap.specs.IndexMap.{insert_entry}

-- a fact for each key
abbrev pub Facts : Type 0
Facts = Key → Fact

-- the fact answers the key: it is absent, or of the kind of the key
abbrev pub Answers : Key → Fact → Type 0
Answers k fact.Absent = Unit {0}
Answers (key.KindOf t) (fact.Kind kind) = Unit {0}
Answers (key.FieldOf t n) (fact.Field field) = Unit {0}
Answers (key.PossibleOf t) (fact.Possible names) = Unit {0}
Answers (key.InputOf t) (fact.Input fields) = Unit {0}
Answers (key.EnumOf t) (fact.Enum values) = Unit {0}
Answers (key.DirectiveOf n) (fact.Directive directive) = Unit {0}
Answers (key.RootOf kind) (fact.Root name) = Unit {0}
Answers (key.FragmentOf n) (fact.Fragment fragment) = Unit {0}
Answers _ _ = ⊥

-- The laws of a world: the answer to a key is of its kind or absent, the answer for a fragment is
-- one of that name, and the names of all fragments and input objects are among finitely many names.
pub record IsWorld (facts : Facts) (names : List (List ℕ)) : Type 0 where
  pub kinds : (k : Key) → Answers k (facts k)
  pub named : (n : List ℕ) (f : FragmentFact) → facts (key.FragmentOf n) ≡ fact.Fragment f
      → f.fragment.name.text ≡ n
  pub fragments : (n : List ℕ) → facts (key.FragmentOf n) ≢ fact.Absent → Contains names n
  pub inputs : (n : List ℕ) → facts (key.InputOf n) ≢ fact.Absent → Contains names n

-- ---- records

-- the answers that a world has recorded, if it keeps a record
abbrev pub Record : Type 0
Record = Option (List (Key × Fact))

-- the answers in a record
abbrev pub answers_in : Record → List (Key × Fact)
answers_in record' = option_map_or (λ (es : List (Key × Fact)). es) record' []

-- a record after this answer to a key, which replaces an earlier one, or else is added last
abbrev pub noted : Key → Fact → List (Key × Fact) → List (Key × Fact)
noted k f answers = insert_entry is_key answers k f
