-- The files of a folder, as the files of a registry.
use Rattle.std.specs.Prelude.{ℕ, ◌≡◌, ◌<◌, ◌≤◌, List, Contains, Option, Some, None, length, map, slice_get, string_bytes}
use Rattle.std.specs.List.{AllPairs}
use Rattle.gql_ast.specs.declared.fault.FileSide.{FileSide}
use Rattle.gql_ast.specs.declared.fault.FileSide.TheVariants.{Schema, Documents}
use Rattle.gql_ast.specs.declared.profile.Limits.{Limits}
use Rattle.gql_folder.specs.Roles.{role_at}
use Rattle.gql_folder.specs.declared.folder.Folder.{Folder}
use Rattle.gql_folder.specs.declared.folder.FolderFault.{FolderFault}
use Rattle.gql_folder.specs.declared.folder.FolderFault.TheVariants.{Misnamed, Twice, TooMany, Memory}
use Rattle.gql_folder.specs.declared.folder.GivenFile.{GivenFile}
use Rattle.gql_folder.specs.declared.folder.NamedFile.{NamedFile}
use Rattle.gql_folder.specs.declared.role.Role.{Role}
use Rattle.gql_folder.specs.declared.role.Role.TheVariants as role

-- the paths of files
abbrev pub paths_of : List GivenFile → List (List ℕ)
paths_of = map (λ (f : GivenFile). string_bytes f.path)

-- the path at this index has this role, within these limits
abbrev pub HasRole : Limits → List (List ℕ) → ℕ → Role → Type 0
HasRole limits paths at r =
    (path : List ℕ) × (slice_get paths at ≡ Some path) × (role_at limits.name path ≡ r)

-- these are exactly the files of a side among the first `count` paths, in the order of the paths, and
-- no two have one name
pub record AreNamed (limits : Limits) (side : FileSide) (paths : List (List ℕ)) (count : ℕ)
    (named : List NamedFile) : Type 0 where
  pub each : (f : NamedFile) → Contains named f
      → (f.at < count) × HasRole limits paths f.at (role.File side f.name)
  pub all : (at : ℕ) (name : List ℕ) → at < count → HasRole limits paths at (role.File side name)
      → Contains named (record { name = name; at = at })
  pub distinct : (f g : NamedFile) → Contains named f → Contains named g → f.name ≡ g.name
      → f ≡ g
  pub rising : AllPairs (λ (f g : NamedFile). f.at < g.at) named

-- the data, if there is some, is at this index among the first `count` paths
abbrev pub IsDataAt : Limits → List (List ℕ) → ℕ → Option ℕ → Type 0
IsDataAt limits paths count None = (at : ℕ) → at < count → HasRole limits paths at role.Data → ⊥
IsDataAt limits paths count (Some at) = (at < count) × HasRole limits paths at role.Data

-- none of the first `count` paths has a role without a name
abbrev pub AreAllNamed : Limits → List (List ℕ) → ℕ → Type 0
AreAllNamed limits paths count =
    (at : ℕ) → at < count → HasRole limits paths at role.Misnamed → ⊥

-- the files of a registry with these limits at the first `count` of these paths
pub record IsFolder (limits : Limits) (paths : List (List ℕ)) (count : ℕ) (f : Folder)
    : Type 0 where
  pub schema : AreNamed limits Schema paths count f.schema.items
  pub documents : AreNamed limits Documents paths count f.documents.items
  pub few_schema : length f.schema.items ≤ limits.files
  pub few_documents : length f.documents.items ≤ limits.files
  pub data_at : IsDataAt limits paths count f.«data»
  pub named : AreAllNamed limits paths count

-- two paths give one name on a side
abbrev pub IsTwice : Limits → List (List ℕ) → ℕ → ℕ → Type 0
IsTwice limits paths first at = (first < at) × (side : FileSide) × (name : List ℕ)
    × HasRole limits paths first (role.File side name)
    × HasRole limits paths at (role.File side name)

-- why these paths are refused as those of a registry with these limits
abbrev pub IsFolderFault : Limits → List (List ℕ) → FolderFault → Type 0
IsFolderFault limits paths (Misnamed at) = HasRole limits paths at role.Misnamed
IsFolderFault limits paths (Twice first at) = IsTwice limits paths first at
IsFolderFault limits paths (TooMany side) =
    (named : List NamedFile) × (count : ℕ) × AreNamed limits side paths count named
    × (at : ℕ) × (count ≤ at) × (limits.files ≤ length named) × (name : List ℕ)
    × HasRole limits paths at (role.File side name)
IsFolderFault limits paths Memory = Unit {0}
