-- The stored operations and fragments that read a part of the schema: those that its removal breaks, by
-- themselves or through a fragment that they reach.
use Rattle.std.specs.Prelude.{ℕ, ◌≡◌, ◌⊎◌, ◌↔◌, List, [], ◌∷◌, ◌++◌, IsTrue}
use Rattle.gql_ast.specs.declared.definition.Definition.{Definition}
use Rattle.gql_facts.specs.Members.{Lists}
use Rattle.gql_facts.specs.Reads.{Reaches}
use Rattle.gql_facts.specs.Worlds.{Facts}
use Rattle.gql_facts.specs.declared.fact.FragmentFact.{FragmentFact}
use Rattle.gql_removal.specs.declared.removal.Removal.{Removal}
use Rattle.gql_usage.specs.Breaks.{Breaks}
use Rattle.gql_usage.specs.Stored.{definition_of}
use Rattle.gql_usage.specs.declared.reader.Reader.{Reader}

-- a definition reaches this fragment, and the removal of the part breaks the fragment
abbrev pub IsBlamed : Facts → Removal → Definition → FragmentFact → Type 0
IsBlamed facts r d g = Reaches facts d g × Breaks facts r (definition_of g)

-- a definition reads the part by itself, or through a fragment
abbrev pub Reads : Facts → Removal → Definition → Type 0
Reads facts r d = Breaks facts r d ⊎ ((g : FragmentFact) × IsBlamed facts r d g)

-- the name of a fragment through which a definition reads the part
abbrev pub IsThrough : Facts → Removal → Definition → List ℕ → Type 0
IsThrough facts r d n =
    (g : FragmentFact) × IsBlamed facts r d g × (g.fragment.name.text ≡ n)

-- The definition as a reader of the part: it is said whether the removal breaks the definition itself,
-- and which of the fragments that it reaches the removal breaks.
pub record IsReader (facts : Facts) (r : Removal) (d : Definition) (x : Reader) : Type 0 where
  pub definition : x.definition ≡ d
  pub by_itself : IsTrue x.by_itself ↔ Breaks facts r d
  pub through : Lists x.through.items (IsThrough facts r d)

-- The readers of a part among these definitions, in their order: a reader for each definition that
-- reads the part, and for no other.
pub data AreReaders (facts : Facts) (r : Removal) : List Definition → List Reader → Type 0 where
  no_definitions : AreReaders facts r [] []
  reads : {ds : List Definition} {xs : List Reader} (d : Definition) (x : Reader)
      → AreReaders facts r ds xs → Reads facts r d → IsReader facts r d x
      → AreReaders facts r (ds ++ d ∷ []) (xs ++ x ∷ [])
  reads_not : {ds : List Definition} {xs : List Reader} (d : Definition)
      → AreReaders facts r ds xs → (Reads facts r d → ⊥)
      → AreReaders facts r (ds ++ d ∷ []) xs
