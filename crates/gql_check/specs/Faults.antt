-- Why the files of a folder are not checked.
use Rattle.std.specs.Prelude.{ℕ, ◌≡◌, ◌+◌, List, [], ◌∷◌, ◌++◌, Option, Some, None, codes, length, slice_get}
use Rattle.gql_ast.specs.declared.profile.Profile.{Profile}
use Rattle.gql_check.specs.Loads.{IsFolderOf, folder_edit, folder_indices}
use Rattle.gql_check.specs.declared.fault.CheckFault.{CheckFault}
use Rattle.gql_check.specs.declared.fault.CheckFault.TheVariants.{Empty, TooMany, Twice, Misnamed, Refused, Memory}
use Rattle.gql_check.specs.declared.fault.FileFault.{FileFault}
use Rattle.gql_folder.specs.Folders.{IsFolder, IsFolderFault, paths_of}
use Rattle.gql_folder.specs.declared.folder.Folder.{Folder}
use Rattle.gql_folder.specs.declared.folder.FolderFault.{FolderFault}
use Rattle.gql_folder.specs.declared.folder.FolderFault.TheVariants as folder
use Rattle.gql_folder.specs.declared.folder.GivenFile.{GivenFile}
use Rattle.gql_registry.specs.Edits.{Change, Edit, IsAccepted, IsFirstRefusal, IsRefusedAt}
use Rattle.gql_registry.specs.Refusals.{number_of, syntax_message}
use Rattle.gql_registry.specs.State as state
use Rattle.gql_registry.specs.declared.refusal.Refusal.{Refusal}
use Rattle.gql_registry.specs.declared.refusal.Refusal.TheVariants as refusal
use Rattle.gql_text.specs.declared.place.Place.{Place}

-- the place of a refusal in its file, if it has one
abbrev pub place_in : Refusal → Option Place
place_in (refusal.Syntax number place) = Some place
place_in _ = None

-- why a file is refused, in words
abbrev pub reason_of : Refusal → List ℕ
reason_of (refusal.Syntax number place) = syntax_message number
reason_of refusal.NotText = codes "the file is not UTF-8"
reason_of refusal.TooLong = codes "the file has more bytes than its profile takes"
reason_of refusal.FilesFull = codes "there are more files than its profile takes"
reason_of refusal.BadData = codes "data is not accepted"
reason_of refusal.Spent = codes "revisions are spent"
reason_of _ = codes "the file is refused"

-- the refusal of the file at an index, in words
pub record IsFileFault (at : ℕ) (r : Refusal) (e : FileFault) : Type 0 where
  pub file : e.file ≡ at
  pub place : e.place ≡ place_in r
  pub number : e.number ≡ number_of r
  pub reason : e.reason.now ≡ reason_of r

-- Of the first `count` of these changes, which put the files at these indices, those that are
-- refused, in their order. The changes before the first of them are accepted in turn by a new
-- registry of this profile, and it is refused in the state that they leave; each of the others is
-- refused by a new registry.
pub data AreRefused (p : Profile) (changes : Edit) (indices : List ℕ)
    : ℕ → List FileFault → Type 0 where
  -- the first file that is refused
  first_refused : {file : ℕ} {e : FileFault} (at : ℕ) (r : Refusal)
      → IsRefusedAt (state.empty_in p) changes at r → slice_get indices at ≡ Some file → IsFileFault file r e
      → AreRefused p changes indices (at + 1) (e ∷ [])
  -- a file after it is refused, too
  also_refused : {es : List FileFault} {file : ℕ} {e : FileFault} (at : ℕ) (change : Change)
      (r : Refusal) → AreRefused p changes indices at es → slice_get changes at ≡ Some change
      → IsFirstRefusal (state.empty_in p) change r → slice_get indices at ≡ Some file
      → IsFileFault file r e → AreRefused p changes indices (at + 1) (es ++ e ∷ [])
  -- a file after it is accepted
  also_accepted : {es : List FileFault} (at : ℕ) (change : Change) → AreRefused p changes indices at es
      → slice_get changes at ≡ Some change → IsAccepted (state.empty_in p) change
      → AreRefused p changes indices (at + 1) es

-- these are the files of a folder that are refused
abbrev pub AreRefusedFiles : Profile → List GivenFile → Folder → List FileFault → Type 0
AreRefusedFiles p given f es =
    AreRefused p (folder_edit given f) (folder_indices f) (length (folder_edit given f)) es

-- the files of a folder are refused
abbrev pub IsRefusal : Profile → List GivenFile → Folder → CheckFault → Type 0
IsRefusal p given f (Refused es) = AreRefusedFiles p given f es.items
IsRefusal p given f _ = ⊥

-- the fault of a folder, as one of a check
abbrev pub of_folder : FolderFault → CheckFault
of_folder (folder.Misnamed at) = Misnamed at
of_folder (folder.Twice first at) = Twice first at
of_folder (folder.TooMany side) = TooMany side
of_folder folder.Memory = Memory

-- Why these files are not checked by this profile.
pub data IsFault (p : Profile) (given : List GivenFile) : CheckFault → Type 0 where
  -- none of them is a file of a registry
  empty : (f : Folder) → IsFolder p.limits (paths_of given) (length given) f → folder_indices f ≡ []
      → IsFault p given Empty
  -- their paths are not those of the files of a registry
  bad_folder : {c : CheckFault} (e : FolderFault) → IsFolderFault p.limits (paths_of given) e
      → c ≡ of_folder e → IsFault p given c
  -- files are refused
  refused : {c : CheckFault} (f : Folder) → IsFolderOf p given f → IsRefusal p given f c
      → IsFault p given c
  -- an allocation failed
  memory : IsFault p given Memory
