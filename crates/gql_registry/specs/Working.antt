-- Helper definitions for private contracts: what changes put together, before it is taken.
use Rattle.std.specs.Prelude.{ℕ, ◌≡◌, List}
use Rattle.gql_ast.specs.declared.definition.Document.{Document}
use Rattle.gql_ast.specs.declared.fault.FileSide.{FileSide}
use Rattle.gql_ast.specs.declared.files.Files.{Files}
use Rattle.gql_registry.specs.Checks.{IsChangeRefusal, IsPlacedOn}
use Rattle.gql_registry.specs.Edits.{Change, IsAccepted, Leaves, put, remove}
use Rattle.gql_registry.specs.PreparedEdits.{data_after}
use Rattle.gql_registry.specs.Sides.{IsFileOn, with_put, with_removed}
use Rattle.gql_registry.specs.State.{State}
use Rattle.gql_registry.specs.declared.loading.Loading.{Loading}
use Rattle.gql_registry.specs.declared.refusal.Refusal.{Refusal}
use Rattle.serde_json.specs.Data.{Data}

-- the state of these files, data and revision
abbrev pub state_over : Files → Data → ℕ → State
state_over files stored revision =
    record { files = files; stored = stored; revision = revision }

-- the state that is being put together, over a registry that has these data, at this revision
abbrev pub state_in : Data → ℕ → Loading → State
state_in stored revision l = state_over l.files (data_after stored l.new_data) revision

-- the change is accepted, and leaves the state t
abbrev pub Takes : State → Change → State → Type 0
Takes s c t = IsAccepted s c × Leaves s c t

-- the bytes are this document, the file is accepted over these files, and it was put
pub record IsFilePut (side : FileSide) (name bytes : List ℕ) (before after : Files) : Type 0 where
  pub document : Document
  pub file : IsFileOn side name bytes document
  pub placed : IsPlacedOn side name document
  pub accepted : (s : State) → s.files ≡ before → IsAccepted s (put side name bytes)
  pub is : after ≡ with_put side before name document

-- there is a file of this name over these files, and it was removed
pub record IsFileRemoved (side : FileSide) (name : List ℕ) (before after : Files) : Type 0 where
  pub accepted : (s : State) → s.files ≡ before → IsAccepted s (remove side name)
  pub is : after ≡ with_removed side before name

-- the change is refused with this over these files
abbrev pub IsFileRefusal : Change → Files → Refusal → Type 0
IsFileRefusal c files r = (s : State) → s.files ≡ files → IsChangeRefusal s c r
