-- Helper definitions for private contracts: the keys that an answer leads to, and what a walk has
-- done so far.
use Rattle.std.specs.Prelude.{◌≡◌, ℕ, ◌≤◌, List, [], ◌∷◌, ◌++◌, flat_map, is_some, take, length, option_map, Contains, true}
use Rattle.gql_ast.specs.declared.definition.Definition.{Definition}
use Rattle.gql_facts.specs.declared.fact.Fact.{Fact}
use Rattle.gql_facts.specs.declared.fact.Fact.TheVariants as fact
use Rattle.gql_facts.specs.declared.fact.FragmentFact.{FragmentFact}
use Rattle.gql_facts.specs.declared.key.Key.{Key}
use Rattle.gql_facts.specs.declared.key.Key.TheVariants as key
use Rattle.gql_facts.specs.Worlds.{Facts, Record, answers_in, noted}
use Rattle.gql_facts.specs.OwnReads.{own_reads, fragment_reads}
use Rattle.gql_facts.specs.Reads.{Reads, types_in, type_reads}
use Rattle.gql_facts.specs.Scans.{Records, Scans}

-- the fragment of a fact, if it is one of a fragment
abbrev pub member_in : Fact → List FragmentFact
member_in (fact.Fragment f) = f ∷ []
member_in _ = []

-- the keys about the types that a fact names
abbrev pub types_led_to : Fact → List Key
types_led_to f = flat_map type_reads (types_in f)

-- the keys that the fragment of a fact reads
abbrev pub fragment_led_to : Facts → Fact → List Key
fragment_led_to facts f =
    flat_map (λ (g : FragmentFact). fragment_reads facts g.fragment) (member_in f)

-- the keys that a fact leads to
abbrev pub led_to : Facts → Fact → List Key
led_to facts f = types_led_to f ++ fragment_led_to facts f

-- What a walk from d has done: the first `at` keys were asked, and the keys that they lead to were
-- added.
pub record IsWalked (facts : Facts) (d : Definition) (before : Record)
    (at : ℕ) (keys : List Key) (found : List FragmentFact) (after : Record) : Type 0 where
  pub within : at ≤ length keys
  pub read : (k : Key) → Contains keys k → Reads facts d k
  pub own : (k : Key) → Contains (own_reads facts d) k → Contains keys k
  pub followed : (j k : Key) → Contains (take at keys) j
      → Contains (led_to facts (facts j)) k → Contains keys k
  pub members : found ≡ flat_map (λ k. member_in (facts k)) (take at keys)
  pub records : Records facts keys before after
  pub noted : is_some before ≡ true → (k : Key) → Contains (take at keys) k
      → Contains (answers_in after) (k, facts k)

-- the key k is asked, and the keys that its answer leads to are added
abbrev pub Visits : Facts → Key → List Key → List FragmentFact → Record
    → List Key → List FragmentFact → Record → Type 0
Visits facts k keys members before new found after =
    Scans facts (led_to facts (facts k)) keys (option_map (noted k (facts k)) before) new after
    × (found ≡ members ++ member_in (facts k))

-- ---- the keys that a walk can meet

-- the keys that the definition and all fragments read by themselves
abbrev pub own_keys : Facts → List (List ℕ) → Definition → List Key
own_keys facts names d =
    own_reads facts d ++ flat_map (λ n. fragment_led_to facts (facts (key.FragmentOf n))) names

-- all keys that a walk can meet: those keys, and those about types that their answers or input
-- objects name
abbrev pub all_keys : Facts → List (List ℕ) → Definition → List Key
all_keys facts names d = own_keys facts names d
    ++ (flat_map (λ k. types_led_to (facts k)) (own_keys facts names d)
    ++ flat_map (λ n. types_led_to (facts (key.InputOf n))) names)
