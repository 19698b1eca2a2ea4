-- Edits that are prepared, as contracts see them.
use Rattle.std.specs.Prelude.{ℕ, ◌≡◌, ◌+◌, false, Option, Some, None, IfSome}
use Rattle.gql_ast.specs.declared.files.Files.{Files}
use Rattle.gql_registry.specs.Edits.{Accepts, Edit, Reports, changes_files}
use Rattle.gql_registry.specs.Examining.{AreReadyOver}
use Rattle.gql_registry.specs.State.{State, pairs_of, shelf_of, state_of}
use Rattle.gql_registry.specs.declared.editing.PreparedEdit.{PreparedEdit}
use Rattle.gql_registry.specs.declared.kept.PreparedFiles.{PreparedFiles}
use Rattle.gql_registry.specs.declared.registry.Edited.{Edited}
use Rattle.gql_registry.specs.declared.registry.Registry.{Registry}
use Rattle.serde_json.specs.Data.{Data}
use Rattle.serde_json.specs.View.{view}
use Rattle.serde_json.specs.declared.value.Value.{Value}

-- the answer to a prepared edit
abbrev pub edited_of : PreparedEdit → Edited
edited_of p = p.edited

-- the files that are prepared, or if there are none these
abbrev pub files_after : Files → Option PreparedFiles → Files
files_after files None = files
files_after files (Some p) = p.files

-- the new data, or if there are none these
abbrev pub data_after : Data → Option Value → Data
data_after stored None = stored
data_after stored (Some v) = view v

-- the state that a prepared edit leaves: parts that it does not change stay
abbrev pub after_of : State → PreparedEdit → State
after_of s p = record {
  files = files_after s.files p.files;
  stored = data_after s.stored p.new_data;
  revision = s.revision + 1;
}

-- the prepared edit leaves the files, and with them all verdicts and pairs
abbrev pub KeepsFiles : PreparedEdit → Type 0
KeepsFiles p = p.files ≡ None

-- The prepared edit leads from the revision of this registry to the next, and from the verdicts and
-- the pairs that it keeps to those of the files that the edit leaves. It stays so until an edit is
-- committed: a run changes none of these.
pub record IsReadyFor (r : Registry) (p : PreparedEdit) : Type 0 where
  pub revision : (edited_of p).revision ≡ (state_of r).revision + 1
  pub files : IfSome p.files (AreReadyOver (shelf_of r) (pairs_of r))

-- The edit was prepared on this registry, which may have to be of an expected revision: it is
-- accepted, this is the state that it leaves and what it answers, and it can be committed.
pub record IsPreparedEditFor (r : Registry) (expected : Option ℕ) (e : Edit) (p : PreparedEdit)
    : Type 0 where
  pub accepts : Accepts (state_of r) expected e (after_of (state_of r) p)
  pub reports : Reports (after_of (state_of r) p) (edited_of p)
  pub ready : IsReadyFor r p
  -- an edit of data alone leaves the files
  pub files : changes_files e ≡ false → KeepsFiles p
