-- Helper definitions for private contracts: a list in order, with changes of elements in order.
use Rattle.std.specs.Prelude.{◌≡◌, ◌≢◌, List, [], ◌∷◌, ◌++◌, cond, filter, Bool, true, false, Option, Some, None, ℕ, take, drop, ◌≤◌, length}
use Rattle.std.specs.BTreeMap.{is_at}
use Rattle.std.specs.Ordering.{is_eq, is_gt, is_lt}
use Rattle.std.specs.declared.cmp.Ordering.{Ordering}
use Rattle.gql_ast.specs.declared.definition.DefinitionId.{DefinitionId}
use Rattle.gql_reads.specs.declared.observation.Answer.{Answer}
use Rattle.gql_facts.specs.declared.key.Key.{Key}
use Rattle.gql_readers.specs.Changes.{AreNotes, Noted, Notes, noted_of}
use Rattle.gql_readers.specs.Readers.{Reader, with_reader}
use Rattle.gql_readers.specs.Indexes.{Reading}
use Rattle.gql_readers.specs.Orders.{id_order, is_id, key_order}

module _ {A K : Type 0} (order : K → K → Ordering) (at : A → K) where
  -- the elements below a place, at it, and above it
  abbrev pub below : K → List A → List A
  below k xs = filter (λ x. is_lt (order (at x) k)) xs

  abbrev pub here : K → List A → List A
  here k xs = filter (λ x. is_eq (order (at x) k)) xs

  abbrev pub above : K → List A → List A
  above k xs = filter (λ x. is_gt (order (at x) k)) xs

  -- from the first index to the second stand the elements at a place
  pub record IsSplit (k : K) (xs : List A) (from to : ℕ) : Type 0 where
    pub ordered : from ≤ to
    pub within : to ≤ length xs
    pub under : below k xs ≡ take from xs
    pub among : here k xs ≡ drop from (take to xs)
    pub over : above k xs ≡ drop to xs

  -- what is at the place of each change is made anew
  abbrev pub merged : {C : Type 0} → (C → K) → (List A → C → List A) → List A → List C → List A
  merged of make xs [] = xs
  merged of make xs (c ∷ cs) = below (of c) xs ++ (make (here (of c) xs) c ++ merged of make (above (of c) xs) cs)

-- what identifies a definition, itself
abbrev pub itself : DefinitionId → DefinitionId
itself id = id

-- a definition that changes: it is there afterwards, or it is not
abbrev pub one_if : Bool → List DefinitionId → DefinitionId → List DefinitionId
one_if comes found id = cond comes (id ∷ []) []

-- definitions in file order, with some that come, or without some that go
abbrev pub edited : Bool → List DefinitionId → List DefinitionId → List DefinitionId
edited comes ids changed = merged id_order itself itself (one_if comes) ids changed

-- readers, without those that go and with those that come
abbrev pub readers_after : List DefinitionId → Noted → List DefinitionId
readers_after ids noted = edited true (edited false ids noted.goes) noted.comes

-- the readers of what was found for a key
abbrev pub readers_found : List Reading → List DefinitionId
readers_found [] = []
readers_found (e ∷ es) = e.readers

-- the answer: what the readers had that come, or if none comes, what was kept
abbrev pub answer_by : List DefinitionId → Answer → Answer → Answer
answer_by [] come kept = kept
answer_by (id ∷ ids) come kept = come

abbrev pub answer_after : List Reading → Noted → Answer
answer_after [] noted = noted.answer
answer_after (e ∷ es) noted = answer_by noted.comes noted.answer e.answer

-- an entry, if it has readers
abbrev pub entry_if : Key → Answer → List DefinitionId → List Reading
entry_if k a [] = []
entry_if k a (id ∷ ids) = record { key = k; answer = a; readers = id ∷ ids } ∷ []

-- what stands for a key after the change, where this was found for it
abbrev pub made : List Reading → Key × Noted → List Reading
made found c = entry_if c.0 (answer_after found c.1) (readers_after (readers_found found) c.1)

-- those who come to a key are those who go from it, and its answer is as it was
pub record IsUnchanged (found : List Reading) (noted : Noted) : Type 0 where
  pub entry : Reading
  pub one : found ≡ entry ∷ []
  pub some : noted.comes ≢ []
  pub same : noted.comes ≡ noted.goes
  pub answer : entry.answer ≡ noted.answer

-- the key of an entry, and that of a change
abbrev pub key_of : Reading → Key
key_of e = e.key

abbrev pub changed_key : Key × Noted → Key
changed_key c = c.0

-- an index with these changes
abbrev pub index_after : List Reading → Notes → List Reading
index_after index notes = merged key_order key_of changed_key made index notes

-- ---- notes

-- a list to which a definition is added, unless it is the last already
abbrev pub is_last : DefinitionId → List DefinitionId → Bool
is_last id [] = false
is_last id (x ∷ []) = is_id x id
is_last id (x ∷ y ∷ ids) = is_last id (y ∷ ids)

abbrev pub with_last : List DefinitionId → DefinitionId → List DefinitionId
with_last ids id = cond (is_last id ids) ids (ids ++ id ∷ [])

-- what is noted once a reader comes that had this answer, and once one goes
abbrev pub come_noted : Noted → Answer → DefinitionId → Noted
come_noted n a id = record { answer = answer_by n.comes n.answer a; comes = with_last n.comes id; goes = n.goes }

abbrev pub go_noted : Noted → DefinitionId → Noted
go_noted n id = record { answer = n.answer; comes = n.comes; goes = with_last n.goes id }

-- nobody comes or goes
abbrev pub nothing_noted : Answer → Noted
nothing_noted a = record { answer = a; comes = []; goes = [] }

-- what is noted of a key, or that nobody comes or goes
abbrev pub noted_or : Answer → Option Noted → Noted
noted_or a None = nothing_noted a
noted_or a (Some n) = n

-- one key has this note, and all others have theirs
abbrev pub NotesAt : Notes → Notes → Key → Noted → Type 0
NotesAt old new key n = (k : Key)
    → noted_of new k ≡ cond (is_at (key_order key) k) (Some n) (noted_of old k)

-- readers come, the last of which has observed this so far
abbrev pub AreComing : Notes → List Reader → List Reader → DefinitionId → List Answer → Type 0
AreComing notes coming going id answers = AreNotes notes (with_reader coming id answers) going

-- readers go, the last of which had observed this so far
abbrev pub AreGoing : Notes → List Reader → List Reader → DefinitionId → List Answer → Type 0
AreGoing notes coming going id answers = AreNotes notes coming (with_reader going id answers)
