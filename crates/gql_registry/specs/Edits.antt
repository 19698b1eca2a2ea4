-- What an edit answers, and the state that it leaves. An edit is a list of changes: all of them are
-- made, one after the other, or none.
use Rattle.std.specs.Prelude.{ℕ, ◌≡◌, ◌≢◌, ◌<◌, ◌≤◌, ◌+◌, List, [], ◌∷◌, length, take, slice_get, Bool, true, false, Option, Some, None, Result, Ok, Err, IsUtf8}
use Rattle.std.specs.List.{list_any}
use Rattle.gql_text.specs.declared.place.Place.{Place}
use Rattle.gql_grammar.specs.declared.fault.SyntaxFault.TheVariants.{At}
use Rattle.gql_grammar.specs.declared.fault.SyntaxRefusal.{SyntaxRefusal}
use Rattle.gql_ast.specs.FileMaps.{file_named}
use Rattle.gql_ast.specs.declared.definition.Document.{Document}
use Rattle.gql_ast.specs.declared.fault.Fault.{Fault}
use Rattle.gql_ast.specs.declared.fault.FileSide.{FileSide}
use Rattle.gql_registry.specs.DataBodies.{IsDataText, is_data}
use Rattle.gql_registry.specs.Report.{IsReport}
use Rattle.gql_registry.specs.Sides.{IsFileOn, IsFaultOn, files_on, limit_on, with_put, with_removed}
use Rattle.gql_registry.specs.State.{State, at_revision, last_revision, profile_of, with_data, with_files}
use Rattle.gql_registry.specs.declared.change.EditRefusal.{EditRefusal}
use Rattle.gql_registry.specs.declared.refusal.Refusal.{Refusal}
use Rattle.gql_registry.specs.declared.refusal.Refusal.TheVariants.{Syntax, NotText, TooLong, NoFile, FilesFull, Stale, BadData, NoOperation, Faulty, TooLarge, NotRun, Memory, Spent}
use Rattle.gql_registry.specs.declared.registry.Edited.{Edited}
use Rattle.serde_json.specs.Data.{Data}

-- ---- edits

-- One change of an edit: bytes put on a side as the file of a name, in place of any file of that
-- name; the file of a name removed from a side; or data put in place of the data before, as bytes or
-- as a value.
pub data Change : Type 0 where
  put : FileSide → List ℕ → List ℕ → Change
  remove : FileSide → List ℕ → Change
  put_data : List ℕ → Change
  set_data : Data → Change

-- an edit: changes, one after the other
abbrev pub Edit : Type 0
Edit = List Change

-- the change is one of the file of this name on this side
abbrev pub ChangesFile : Change → FileSide → List ℕ → Type 0
ChangesFile (put on other bytes) side name = (on ≡ side) × (other ≡ name)
ChangesFile (remove on other) side name = (on ≡ side) × (other ≡ name)
ChangesFile (put_data bytes) side name = ⊥
ChangesFile (set_data d) side name = ⊥

-- whether the change is one of a file
abbrev pub is_of_file : Change → Bool
is_of_file (put side name bytes) = true
is_of_file (remove side name) = true
is_of_file (put_data bytes) = false
is_of_file (set_data d) = false

-- whether some change of the edit is one of a file
abbrev pub changes_files : Edit → Bool
changes_files = list_any is_of_file

-- ---- checks

-- An edit is stopped by this refusal, before its changes are looked at. It may expect a revision.
pub data Stops : State → Option ℕ → Refusal → Type 0 where
  -- 206: another revision is expected than the present one
  stale : {s : State} {expected : ℕ} → expected ≢ s.revision → Stops s (Some expected) (Stale s.revision)
  -- 212: there is no revision after the present one
  spent : {s : State} {expected : Option ℕ} → s.revision ≡ last_revision → Stops s expected Spent

-- The change fails a check in this state, with this refusal.
pub data Fails : State → Change → Refusal → Type 0 where
  -- 203: the file has too many bytes
  too_long : {s : State} {side : FileSide} {name bytes : List ℕ}
      → limit_on (profile_of s) side < length bytes → Fails s (put side name bytes) TooLong
  -- 202: the bytes are not UTF-8
  not_text : {s : State} {side : FileSide} {name bytes : List ℕ} → (IsUtf8 bytes → ⊥)
      → Fails s (put side name bytes) NotText
  data_not_text : {s : State} {bytes : List ℕ} → (IsUtf8 bytes → ⊥)
      → Fails s (put_data bytes) NotText
  -- 207: the text or the value is not accepted as data
  bad_data : {s : State} {bytes : List ℕ} → ((d : Data) → IsDataText (profile_of s) bytes d → ⊥)
      → Fails s (put_data bytes) BadData
  bad_value : {s : State} {d : Data} → is_data (profile_of s) d ≡ false
      → Fails s (set_data d) BadData
  -- 201: the text is not a file of the side
  syntax : {s : State} {side : FileSide} {name bytes : List ℕ} {number : SyntaxRefusal}
      {place : Place} → IsFaultOn side name bytes (At number place)
      → Fails s (put side name bytes) (Syntax number place)
  -- 204: there is no file of the name
  no_file : {s : State} {side : FileSide} {name : List ℕ}
      → file_named (files_on side s.files) name ≡ None → Fails s (remove side name) NoFile
  -- 205: the name is new, and the side has as many files as it may have
  files_full : {s : State} {side : FileSide} {name bytes : List ℕ}
      → file_named (files_on side s.files) name ≡ None
      → (profile_of s).limits.files ≤ length (files_on side s.files)
      → Fails s (put side name bytes) FilesFull

-- the order in which the checks are made: 206, 212, and for a change 203, 202, 201 or 207, 204, 205
abbrev pub rank : Refusal → ℕ
rank (Stale revision) = 0
rank Spent = 1
rank TooLong = 2
rank NotText = 3
rank (Syntax number place) = 4
rank BadData = 4
rank NoFile = 5
rank FilesFull = 6
rank NoOperation = 7
rank (Faulty faults) = 7
rank TooLarge = 7
rank NotRun = 7
rank Memory = 7

-- the refusal of the first check that stops the edit
pub record IsFirstStop (s : State) (expected : Option ℕ) (r : Refusal) : Type 0 where
  pub stops : Stops s expected r
  pub first : (other : Refusal) → Stops s expected other → rank r ≤ rank other

-- the edit expects no revision, or the present one
abbrev pub IsExpected : State → Option ℕ → Type 0
IsExpected s None = Unit {0}
IsExpected s (Some expected) = expected ≡ s.revision

-- nothing stops the edit
pub record IsInTime (s : State) (expected : Option ℕ) : Type 0 where
  pub present : IsExpected s expected
  pub left : s.revision < last_revision

-- the refusal of the first check that the change fails
pub record IsFirstRefusal (s : State) (c : Change) (r : Refusal) : Type 0 where
  pub fails : Fails s c r
  pub first : (other : Refusal) → Fails s c other → rank r ≤ rank other

-- the change fails no check
abbrev pub IsAccepted : State → Change → Type 0
IsAccepted s c = (r : Refusal) → Fails s c r → ⊥

-- ---- what is left

-- the state that an accepted change leaves: the revision is the edit's
abbrev pub Leaves : State → Change → State → Type 0
Leaves s (put side name bytes) t = (document : Document) × IsFileOn side name bytes document
    × (t ≡ with_files s (with_put side s.files name document))
Leaves s (remove side name) t = t ≡ with_files s (with_removed side s.files name)
Leaves s (put_data bytes) t = (d : Data) × IsDataText (profile_of s) bytes d × (t ≡ with_data s d)
Leaves s (set_data d) t = t ≡ with_data s d

-- the changes are accepted in turn, each in the state that those before it leave, and the last of
-- them leaves this state
pub data MakesAll : State → Edit → State → Type 0 where
  done : {s : State} → MakesAll s [] s
  step : {s t u : State} {c : Change} {cs : Edit} → IsAccepted s c → Leaves s c t → MakesAll t cs u
      → MakesAll s (c ∷ cs) u

-- the edit is accepted, and leaves the state t: what its changes leave, at the next revision
pub record Accepts (s : State) (expected : Option ℕ) (e : Edit) (t : State) : Type 0 where
  pub in_time : IsInTime s expected
  pub made : State
  pub makes : MakesAll s e made
  pub left : t ≡ at_revision (s.revision + 1) made

-- the changes before this index are accepted in turn, and the one at it is refused in the state that
-- they leave, with the first check that it fails
pub record IsRefusedAt (s : State) (e : Edit) (at : ℕ) (r : Refusal) : Type 0 where
  pub left : State
  pub change : Change
  pub before : MakesAll s (take at e) left
  pub there : slice_get e at ≡ Some change
  pub first : IsFirstRefusal left change r

-- Why an edit is refused, and at which of its changes. If it is stopped the index is 0, and if an
-- allocation fails nothing is said of it.
pub data IsRefused (s : State) (expected : Option ℕ) (e : Edit) : EditRefusal → Type 0 where
  stopped : {r : Refusal} → IsFirstStop s expected r
      → IsRefused s expected e (record { at = 0; refusal = r })
  at_change : {at : ℕ} {r : Refusal} → IsInTime s expected → IsRefusedAt s e at r
      → IsRefused s expected e (record { at = at; refusal = r })
  memory : {at : ℕ} → IsRefused s expected e (record { at = at; refusal = Memory })

-- ---- answers

-- what an accepted edit that leaves this state answers: the revision, and the number of faults in
-- the report
abbrev pub Reports : State → Edited → Type 0
Reports t edited = (edited.revision ≡ t.revision)
    × ((faults : List Fault) × IsReport t.files faults × (edited.faults ≡ length faults))

-- What an edit answers in the state s, and the state t that it leaves. It is accepted if nothing
-- stops it and none of its changes fails a check. Otherwise it is refused, with the first check that
-- fails, and changes nothing. If an allocation fails, it is refused and changes nothing.
abbrev pub Makes : State → Option ℕ → Edit → Result Edited EditRefusal → State → Type 0
Makes s expected e (Ok edited) t = Accepts s expected e t × Reports t edited
Makes s expected e (Err r) t = IsRefused s expected e r × (t ≡ s)

-- the answer to an edit of one change, as that to an edit
abbrev pub of_one : Result Edited Refusal → Result Edited EditRefusal
of_one (Ok edited) = Ok edited
of_one (Err r) = Err (record { at = 0; refusal = r })
