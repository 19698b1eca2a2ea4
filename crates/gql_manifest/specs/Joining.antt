-- The files of a folder together with those that manifests are made into.
use Rattle.std.specs.Prelude.{ℕ, ◌≡◌, ◌<◌, ◌⊎◌, List, Contains, length, IsSome, Option, Some, None, map, slice_get, string_bytes}
use Rattle.std.specs.BTreeMap.{BTreeMap, Updates, get}
use Rattle.std.specs.Cmp.Lexicographic.{slice_cmp}
use Rattle.std.specs.Ordering.{nat_cmp}
use Rattle.gql_ast.specs.declared.fault.FileSide.{FileSide}
use Rattle.gql_ast.specs.declared.fault.FileSide.TheVariants.{Schema, Documents}
use Rattle.gql_folder.specs.Roles.{role_at}
use Rattle.gql_folder.specs.declared.folder.GivenFile.{GivenFile}
use Rattle.gql_folder.specs.declared.role.Role.{Role}
use Rattle.gql_folder.specs.declared.role.Role.TheVariants.{File}
use Rattle.gql_manifest.specs.declared.fault.ManifestFault.{ManifestFault}
use Rattle.gql_manifest.specs.declared.fault.ManifestFault.TheVariants.{Clash, Memory}
use Rattle.gql_manifest.specs.declared.files.MadeFile.{MadeFile}
use Rattle.gql_manifest.specs.declared.joined.FolderNames.{FolderNames}

-- the path is that of the file of this name on a side, where a name has at most so many bytes
abbrev pub IsNamed : ℕ → FileSide → List ℕ → List ℕ → Type 0
IsNamed most side name path = role_at most path ≡ File side name

-- two paths are those of files that have one name on one side
abbrev pub HaveOneName : ℕ → List ℕ → List ℕ → Type 0
HaveOneName most p q = (side : FileSide) × (name : List ℕ) × IsNamed most side name p
    × IsNamed most side name q

-- no file of the folder has the name of the file at this path
abbrev pub IsFree : ℕ → List GivenFile → List ℕ → Type 0
IsFree most files path =
    (f : GivenFile) → Contains files f → HaveOneName most (string_bytes f.path) path → ⊥

-- no file of the folder has the name of a made one
abbrev pub AreApart : ℕ → List GivenFile → List MadeFile → Type 0
AreApart most files made =
    (m : MadeFile) → Contains made m → IsFree most files (string_bytes m.file.path)

-- the file is one of the folder, and has the name of the file at this path
abbrev pub IsTaken : ℕ → List GivenFile → List ℕ → GivenFile → Type 0
IsTaken most files path f = Contains files f × HaveOneName most (string_bytes f.path) path

-- the files that are made
abbrev pub files_made : List MadeFile → List GivenFile
files_made = map (λ (m : MadeFile). m.file)

-- the fault names the made file of this path, and says what it is made of
abbrev pub SaysClash : List ℕ → List ℕ → ManifestFault → Type 0
SaysClash path source (Clash p m s) = (string_bytes m ≡ path) × (string_bytes s ≡ source)
SaysClash path source _ = ⊥

-- a file of the folder has the name of a made one, which the fault names
abbrev pub IsClash : ℕ → List GivenFile → List MadeFile → ManifestFault → Type 0
IsClash most files made fault = (f : GivenFile) × (m : MadeFile) × Contains made m
    × IsTaken most files (string_bytes m.file.path) f
    × SaysClash (string_bytes m.file.path) (string_bytes m.source) fault

-- why the files are not added: an allocation fails, or a file of the folder has the name of a made
-- one, and those of the folder are as they were
abbrev pub IsJoinFault
    : ℕ → List GivenFile → List MadeFile → List GivenFile → ManifestFault → Type 0
IsJoinFault most old made new fault =
    (fault ≡ Memory) ⊎ ((new ≡ old) × IsClash most old made fault)

-- the file at this index has this name on a side
abbrev pub IsNamedAt : ℕ → FileSide → List GivenFile → List ℕ → ℕ → Type 0
IsNamedAt most side files name at =
    (f : GivenFile) × (slice_get files at ≡ Some f) × IsNamed most side name (string_bytes f.path)

-- the index under a name
abbrev pub index_of : BTreeMap (List ℕ) ℕ → List ℕ → Option ℕ
index_of = get (slice_cmp nat_cmp)

-- the names are those of the files of a side among the first `count`: under each name is the index
-- of a file that has it
pub record AreNames (most : ℕ) (side : FileSide) (files : List GivenFile) (count : ℕ)
    (names : BTreeMap (List ℕ) ℕ) : Type 0 where
  pub each : (name : List ℕ) (at : ℕ) → index_of names name ≡ Some at
      → (at < count) × IsNamedAt most side files name at
  pub all : (name : List ℕ) (at : ℕ) → at < count → IsNamedAt most side files name at
      → IsSome (index_of names name)

-- the path is that of no file of a side
abbrev pub IsNone : ℕ → FileSide → List ℕ → Type 0
IsNone most side path = (name : List ℕ) → IsNamed most side name path → ⊥

-- the index is under the name of the path, if that is one of the side, and else nothing changes
abbrev pub AddsName
    : ℕ → FileSide → List ℕ → ℕ → BTreeMap (List ℕ) ℕ → BTreeMap (List ℕ) ℕ → Type 0
AddsName most side path at old new = (IsNone most side path × (new ≡ old))
    ⊎ ((name : List ℕ) × IsNamed most side name path
    × Updates (slice_cmp nat_cmp) old new name (Some at))

-- the index of the file of a role
abbrev pub index_in : FolderNames → Role → Option ℕ
index_in names (File Schema name) = index_of names.schema name
index_in names (File Documents name) = index_of names.documents name
index_in names _ = None

-- the names of both sides are those of these files
pub record AreAllNames (most : ℕ) (files : List GivenFile) (names : FolderNames) : Type 0 where
  pub schema : AreNames most Schema files (length files) names.schema
  pub documents : AreNames most Documents files (length files) names.documents
