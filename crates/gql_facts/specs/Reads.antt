-- The fragments that a definition reaches by its spreads, and the keys that it reads: the least
-- sets with these members.
use Rattle.std.specs.Prelude.{◌≡◌, ◌⊎◌, ℕ, List, [], ◌∷◌, map, is_some, true, Contains}
use Rattle.gql_ast.specs.declared.definition.Definition.{Definition}
use Rattle.gql_facts.specs.declared.fact.Fact.{Fact}
use Rattle.gql_facts.specs.declared.fact.Fact.TheVariants as fact
use Rattle.gql_facts.specs.declared.fact.InputFact.{InputFact}
use Rattle.gql_facts.specs.declared.fact.FragmentFact.{FragmentFact}
use Rattle.gql_facts.specs.declared.key.Key.{Key}
use Rattle.gql_facts.specs.declared.key.Key.TheVariants as key
use Rattle.gql_facts.specs.Worlds.{Facts, Record, answers_in}
use Rattle.gql_facts.specs.OwnReads.{own_reads, fragment_reads}

-- The fragments that a definition reaches: the one that a spread in the definition names, or a
-- spread in a fragment that it reaches. A spread is a node that reads the key of the fragment.
pub data Reaches (facts : Facts) (d : Definition) : FragmentFact → Type 0 where
  by_definition : {n : List ℕ} {g : FragmentFact} → Contains (own_reads facts d) (key.FragmentOf n)
      → facts (key.FragmentOf n) ≡ fact.Fragment g → Reaches facts d g
  by_fragment : {n : List ℕ} {f g : FragmentFact} → Reaches facts d f
      → Contains (fragment_reads facts f.fragment) (key.FragmentOf n)
      → facts (key.FragmentOf n) ≡ fact.Fragment g → Reaches facts d g

-- the named types of arguments or input fields
abbrev pub input_types : List InputFact → List (List ℕ)
input_types = map (λ (i : InputFact). i.of_type.name)

-- the types that a fact names
abbrev pub types_in : Fact → List (List ℕ)
types_in (fact.Field f) = f.of_type.name ∷ input_types f.arguments
types_in (fact.Input fields) = input_types fields
types_in (fact.Directive d) = input_types d.arguments
types_in (fact.Root name) = name ∷ []
types_in _ = []

-- the keys about a type
abbrev pub type_reads : List ℕ → List Key
type_reads t = key.KindOf t ∷ key.PossibleOf t ∷ key.InputOf t ∷ key.EnumOf t ∷ []

-- The keys that a definition reads: those that it reads by itself, those of each fragment that it
-- reaches, and those about each type that is named in the answer to a key that it reads.
pub data Reads (facts : Facts) (d : Definition) : Key → Type 0 where
  own : {k : Key} → Contains (own_reads facts d) k → Reads facts d k
  of_fragment : {g : FragmentFact} {k : Key} → Reaches facts d g
      → Contains (fragment_reads facts g.fragment) k → Reads facts d k
  of_type : {j k : Key} {t : List ℕ} → Reads facts d j → Contains (types_in (facts j)) t
      → Contains (type_reads t) k → Reads facts d k

-- u answers as v does to each key that d reads with v
abbrev pub Agree : Facts → Facts → Definition → Type 0
Agree v u d = (k : Key) → Reads v d k → u k ≡ v k

-- ---- what a world has recorded after it was asked

-- A world was asked for some of the keys that satisfy P, and for no others. Its record gains right
-- answers to such keys only, and keeps each right answer that it had. A world that keeps no record
-- still keeps none.
pub record AskedAmong (facts : Facts) (P : Key → Type 0) (before after : Record) : Type 0 where
  pub is_kept : is_some after ≡ is_some before
  pub right : (e : Key × Fact) → Contains (answers_in after) e
      → Contains (answers_in before) e ⊎ (P e.0 × (e.1 ≡ facts e.0))
  pub stays : (e : Key × Fact) → e.1 ≡ facts e.0
      → Contains (answers_in before) e → Contains (answers_in after) e

-- A world was asked for each key that satisfies P, and for no other. If it keeps a record, that has
-- the answer to each of them.
pub record Asked (facts : Facts) (P : Key → Type 0) (before after : Record) : Type 0 where
  pub among : AskedAmong facts P before after
  pub all : is_some before ≡ true → (k : Key) → P k → Contains (answers_in after) (k, facts k)
