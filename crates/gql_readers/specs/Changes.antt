-- Changes of an index: readers that come, and readers that go.
use Rattle.std.specs.Prelude.{◌≡◌, ◌≢◌, ◌⊎◌, List, [], Contains, Option, Some}
use Rattle.std.specs.BTreeMap.{is_at}
use Rattle.std.specs.Map.{lookup}
use Rattle.std.specs.Option.{option_map_or}
use Rattle.gql_ast.specs.declared.definition.DefinitionId.{DefinitionId}
use Rattle.gql_facts.specs.Worlds.{Facts}
use Rattle.gql_reads.specs.declared.observation.Answer.{Answer}
use Rattle.gql_facts.specs.declared.key.Key.{Key}
use Rattle.gql_reads.specs.Leading.{AreLed}
use Rattle.gql_reads.specs.Observations.{Hold, observed_in}
use Rattle.gql_readers.specs.Indexes.{IsIndexOf, Reading}
use Rattle.gql_readers.specs.Orders.{key_order}
use Rattle.gql_readers.specs.Readers.{InReadingOrder, Reader, ids_of, readers_of}

-- of one key: the answer, the readers that come, and those that go
pub record Noted : Type 0 where
  pub answer : Answer
  pub comes : List DefinitionId
  pub goes : List DefinitionId

-- what is noted of each key
abbrev pub Notes : Type 0
Notes = List (Key × Noted)

-- what is noted of a key, if anything is
abbrev pub noted_of : Notes → Key → Option Noted
noted_of notes k = lookup (is_at (key_order k)) notes

-- the readers that come to a key
abbrev pub comes_in : Notes → Key → List DefinitionId
comes_in notes k = option_map_or (λ (n : Noted). n.comes) (noted_of notes k) []

-- the readers that go from a key
abbrev pub goes_in : Notes → Key → List DefinitionId
goes_in notes k = option_map_or (λ (n : Noted). n.goes) (noted_of notes k) []

-- some reader had this answer to the key
abbrev pub WasTold : List Reader → Key → Answer → Type 0
WasTold readers k a = (r : Reader) × (o : Answer) × Contains readers r
    × Contains r.answers o × (o.observation.key ≡ k) × (o ≡ a)

-- The notes say of each key exactly which of these readers come to it, and which of those go from
-- it. Where one comes, the answer is one that such a reader had.
pub record AreNotes (notes : Notes) (coming going : List Reader) : Type 0 where
  pub comes : (k : Key) → comes_in notes k ≡ readers_of k coming
  pub goes : (k : Key) → goes_in notes k ≡ readers_of k going
  pub answers : (k : Key) (n : Noted) → noted_of notes k ≡ Some n → n.comes ≢ []
      → WasTold coming k n.answer

-- a reader on this definition has this answer
abbrev pub HasAnswer : List Reader → DefinitionId → Answer → Type 0
HasAnswer readers id o = (r : Reader) × Contains readers r × (r.id ≡ id) × Contains r.answers o

-- a reader on this definition has an answer to this key
abbrev pub HasKey : List Reader → DefinitionId → Key → Type 0
HasKey readers id k = Contains (readers_of k readers) id

-- The answers that go and those that come make the new readers of the old ones. What goes was
-- there, and what comes is there afterwards. A key that was read and does not go is still read. To
-- the key of each answer that is there afterwards its reader comes, or the answer was there, and its
-- reader does not go from its key.
pub record IsDifference (old going coming new : List Reader) : Type 0 where
  pub goes : (id : DefinitionId) (o : Answer) → HasAnswer going id o → HasAnswer old id o
  pub comes : (id : DefinitionId) (o : Answer) → HasAnswer coming id o → HasAnswer new id o
  pub stays : (id : DefinitionId) (o : Answer) → HasAnswer old id o
      → (HasKey going id o.observation.key → ⊥) → HasKey new id o.observation.key
  pub from : (id : DefinitionId) (o : Answer) → HasAnswer new id o
      → HasKey coming id o.observation.key
      ⊎ (HasAnswer old id o × (HasKey going id o.observation.key → ⊥))

-- Answers of the old readers go, others come, and that makes the new readers: all in file order,
-- each definition once. A reader that goes or comes can have a part of the answers of its definition.
-- What the new readers observed holds, and each of their answers has exactly the types that it leads
-- to.
pub record IsEdit (facts : Facts) (old going coming new : List Reader) : Type 0 where
  pub old_order : InReadingOrder old
  pub going_order : InReadingOrder going
  pub coming_order : InReadingOrder coming
  pub new_order : InReadingOrder new
  pub difference : IsDifference old going coming new
  pub holds : (r : Reader) → Contains new r → Hold facts (observed_in r.answers)
  pub led : (r : Reader) → Contains new r → AreLed r.answers

-- the readers on which a definition is not
abbrev pub IsNew : DefinitionId → List Reader → Type 0
IsNew id readers = (r : Reader) → Contains readers r → r.id ≡ id → ⊥

-- the index is that of the old readers, and the notes are those of the edit
pub record IsChange (facts : Facts) (index : List Reading) (notes : Notes)
    (old going coming new : List Reader) : Type 0 where
  pub index_of : IsIndexOf index old
  pub notes_of : AreNotes notes coming going
  pub edit : IsEdit facts old going coming new

-- The notes say what makes the new readers of the old ones: for each new reader one comes, with its
-- answers or a part of them, and for each old one such a reader goes.
pub record AreNotesBetween (notes : Notes) (old new : List Reader) : Type 0 where
  pub coming : List Reader
  pub going : List Reader
  pub notes_of : AreNotes notes coming going
  pub coming_ids : ids_of coming ≡ ids_of new
  pub going_ids : ids_of going ≡ ids_of old
  pub difference : IsDifference old going coming new

-- the notes are those of some edit of the readers of the index
abbrev pub IsSomeChange : List Reading → Notes → Type 0
IsSomeChange index notes = (facts : Facts) × (old : List Reader) × (going : List Reader)
    × (coming : List Reader) × (new : List Reader)
    × IsChange facts index notes old going coming new
