-- The laws of the registry's report and edits. `src/laws.rt` has a function for each.
use Rattle.std.specs.Prelude.{ℕ, ◌≡◌, ◌≢◌, ◌+◌, List, [], ◌∷◌, Option, Some, None, Result, Ok, Err, true, false}
use Rattle.std.specs.List.Sorted.{IsStrictlySortedBy}
use Rattle.std.specs.Map.{keys_of}
use Rattle.gql_ast.specs.FileMaps.{file_named, name_order}
use Rattle.gql_ast.specs.declared.definition.Document.{Document}
use Rattle.gql_ast.specs.declared.fault.Fault.{Fault}
use Rattle.gql_ast.specs.declared.fault.FileSide.{FileSide}
use Rattle.gql_ast.specs.declared.files.Files.{Files}
use Rattle.gql_ast.specs.declared.profile.Profile.{Profile}
use Rattle.gql_registry.specs.Calls.{Answers, CallOutcome}
use Rattle.gql_registry.specs.DataBodies.{IsDataText, is_data}
use Rattle.gql_registry.specs.Edits.{Accepts, Change, ChangesFile, Edit, Makes, MakesAll, is_of_file, put, put_data, remove, set_data}
use Rattle.gql_registry.specs.Report.{IsReport}
use Rattle.gql_registry.specs.Sides.{IsFileOn, files_on}
use Rattle.gql_registry.specs.State.{State, at_revision, profile_of}
use Rattle.gql_registry.specs.declared.change.EditRefusal.{EditRefusal}
use Rattle.gql_registry.specs.declared.refusal.Refusal.{Refusal}
use Rattle.gql_registry.specs.declared.refusal.Refusal.TheVariants.{Memory, NotRun}
use Rattle.gql_registry.specs.declared.registry.Edited.{Edited}
use Rattle.serde_json.specs.Data.{Data}

-- no allocation failed
abbrev pub WasMade : Result Edited EditRefusal → Type 0
WasMade (Ok edited) = Unit {0}
WasMade (Err r) = r.refusal ≢ Memory

-- an edit has at most one answer and leaves at most one state, unless an allocation fails
abbrev pub OneEdit : Type 0
OneEdit = (s t u : State) (expected : Option ℕ) (e : Edit) (r q : Result Edited EditRefusal)
    → Makes s expected e r t
    → Makes s expected e q u → WasMade r → WasMade q → (r ≡ q) × (t ≡ u)

-- a call has at most one answer, unless an allocation fails
abbrev pub OneAnswer : Type 0
OneAnswer = (files : Files) (stored : Data) (name : Option (List ℕ)) (variables : Data)
    (r q : Result CallOutcome Refusal) → Answers files stored name variables r
    → Answers files stored name variables q → (r ≡ Err Memory → ⊥) → (q ≡ Err Memory → ⊥) → r ≡ q

-- changes that are accepted in turn leave at most one state
abbrev pub OneLoad : Type 0
OneLoad = (s t u : State) (e : Edit) → MakesAll s e t → MakesAll s e u → t ≡ u

-- the changes are accepted as edits of their own, one after the other, while no revision is expected
pub data AcceptsEach : State → Edit → State → Type 0 where
  none_left : {s : State} → AcceptsEach s [] s
  one_more : {s t u : State} {c : Change} {cs : Edit} → Accepts s None (c ∷ []) t
      → AcceptsEach t cs u → AcceptsEach s (c ∷ cs) u

-- an edit leaves what its changes leave as edits of their own, one after the other, but for the
-- revision, which it raises by one
abbrev pub AsOneByOne : Type 0
AsOneByOne = (s t u : State) (expected : Option ℕ) (e : Edit) → Accepts s expected e t
    → AcceptsEach s e u → t ≡ at_revision (s.revision + 1) u

-- an edit keeps the profile, whatever it answers
abbrev pub EditKeepsProfile : Type 0
EditKeepsProfile = (s t : State) (expected : Option ℕ) (e : Edit) (r : Result Edited EditRefusal)
    → Makes s expected e r t → profile_of t ≡ profile_of s

-- without subscriptions, every operation that no fault keeps from being executed is run
abbrev pub AllAreRun : Type 0
AllAreRun = (files : Files) (stored : Data) (name : Option (List ℕ)) (variables : Data)
    → files.profile.subscriptions ≡ false
    → Answers files stored name variables (Err NotRun) → ⊥

-- files have at most one report
abbrev pub OneReport : Type 0
OneReport = (files : Files) (a b : List Fault) → IsReport files a → IsReport files b → a ≡ b

-- the files of a side are in the order of their names, none of which occurs twice
abbrev pub IsOrderedOn : FileSide → State → Type 0
IsOrderedOn side s = IsStrictlySortedBy name_order (keys_of (files_on side s.files))

-- the file of a name on a side
abbrev pub under : FileSide → List ℕ → State → Option Document
under side name s = file_named (files_on side s.files) name

-- What an accepted change leaves under a name of a side, which held `before`: the document that was
-- put, nothing after a removal, or what was there, if the change is of another file or of the data.
pub data ChangesUnder (side : FileSide) (name : List ℕ) (before : Option Document) : Change
    → Option Document → Type 0 where
  by_put : {bytes : List ℕ} {document : Document} → IsFileOn side name bytes document
      → ChangesUnder side name before (put side name bytes) (Some document)
  by_removal : ChangesUnder side name before (remove side name) None
  elsewhere : {c : Change} → (ChangesFile c side name → ⊥)
      → ChangesUnder side name before c before

-- what an accepted edit leaves under a name of a side: what its changes leave there, one after the
-- other
pub data LeavesUnder (side : FileSide) (name : List ℕ) : Option Document → Edit → Option Document
    → Type 0 where
  as_before : {held : Option Document} → LeavesUnder side name held [] held
  by_change : {before held after : Option Document} {c : Change} {cs : Edit}
      → ChangesUnder side name before c held → LeavesUnder side name held cs after
      → LeavesUnder side name before (c ∷ cs) after

-- after an accepted edit each name of a side holds what the edit leaves under it, and the files of
-- the side are in order again
abbrev pub HoldsAfter : Type 0
HoldsAfter = (s t : State) (expected : Option ℕ) (e : Edit) (side : FileSide)
    → IsOrderedOn side s → Accepts s expected e t
    → IsOrderedOn side t × ((name : List ℕ)
    → LeavesUnder side name (under side name s) e (under side name t))

-- what an accepted change leaves as the data, which were `before`: those that it puts, or if it is
-- one of a file, what was there
pub data ChangesDataTo (profile : Profile) (before : Data) : Change → Data → Type 0 where
  by_text : {bytes : List ℕ} {d : Data} → IsDataText profile bytes d
      → ChangesDataTo profile before (put_data bytes) d
  by_value : {d : Data} → is_data profile d ≡ true → ChangesDataTo profile before (set_data d) d
  of_file : {c : Change} → is_of_file c ≡ true → ChangesDataTo profile before c before

-- what an accepted edit leaves as the data: what its changes leave, one after the other
pub data LeavesData (profile : Profile) : Data → Edit → Data → Type 0 where
  data_as_before : {d : Data} → LeavesData profile d [] d
  data_by_change : {before stored after : Data} {c : Change} {cs : Edit}
      → ChangesDataTo profile before c stored → LeavesData profile stored cs after
      → LeavesData profile before (c ∷ cs) after

-- after an accepted edit the data are those that the edit leaves
abbrev pub DataLeft : Type 0
DataLeft = (s t : State) (expected : Option ℕ) (e : Edit) → Accepts s expected e t
    → LeavesData (profile_of s) s.stored e t.stored
