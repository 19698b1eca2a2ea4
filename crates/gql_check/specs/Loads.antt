-- The files of a folder, put into a new registry.
use Rattle.std.specs.Prelude.{ℕ, ◌≢◌, List, [], ◌∷◌, ◌++◌, Option, Some, None, length, map, option_map, slice_get, unwrap_or}
use Rattle.gql_ast.specs.declared.fault.FileSide.{FileSide}
use Rattle.gql_ast.specs.declared.fault.FileSide.TheVariants.{Schema, Documents}
use Rattle.gql_ast.specs.declared.profile.Profile.{Profile}
use Rattle.gql_folder.specs.Folders.{IsFolder, paths_of}
use Rattle.gql_folder.specs.declared.folder.Folder.{Folder}
use Rattle.gql_folder.specs.declared.folder.GivenFile.{GivenFile}
use Rattle.gql_folder.specs.declared.folder.NamedFile.{NamedFile}
use Rattle.gql_registry.specs.Edits.{Accepts, Change, Edit, put, put_data}
use Rattle.gql_registry.specs.State.{State, empty_in, state_of}
use Rattle.gql_registry.specs.declared.registry.Registry.{Registry}

-- the bytes of the file at an index among those given; empty where there is none
abbrev pub bytes_at : List GivenFile → ℕ → List ℕ
bytes_at given at =
    unwrap_or (option_map (λ (f : GivenFile). f.bytes.items) (slice_get given at)) []

-- the change that puts a file on a side
abbrev pub put_on : FileSide → List GivenFile → NamedFile → Change
put_on side given f = put side f.name (bytes_at given f.at)

-- the change that puts the data, if there are some
abbrev pub data_changes : List GivenFile → Option ℕ → Edit
data_changes given None = []
data_changes given (Some at) = put_data (bytes_at given at) ∷ []

-- The edit that puts the files of a folder: the schema files, the documents and the data. Those of a
-- side are in the order in which they are given.
abbrev pub folder_edit : List GivenFile → Folder → Edit
folder_edit given f = map (put_on Schema given) f.schema.items
    ++ map (put_on Documents given) f.documents.items ++ data_changes given f.«data»

-- the indices of files
abbrev pub indices_of : List NamedFile → List ℕ
indices_of = map (λ (f : NamedFile). f.at)

-- the index of the data, if there are some
abbrev pub data_indices : Option ℕ → List ℕ
data_indices None = []
data_indices (Some at) = at ∷ []

-- for each of these changes, the index of the file that it puts, among those given
abbrev pub folder_indices : Folder → List ℕ
folder_indices f =
    indices_of f.schema.items ++ indices_of f.documents.items ++ data_indices f.«data»

-- these are the files of a registry of this profile among those given, and there is at least one
pub record IsFolderOf (p : Profile) (given : List GivenFile) (f : Folder) : Type 0 where
  pub names : IsFolder p.limits (paths_of given) (length given) f
  pub some : folder_indices f ≢ []

-- the state that putting the files of a folder into a new registry of this profile leaves
pub record IsFolderState (p : Profile) (given : List GivenFile) (f : Folder) (s : State)
    : Type 0 where
  pub folder : IsFolderOf p given f
  pub puts : Accepts (empty_in p) None (folder_edit given f) s

-- the registry holds what putting these files into a new one of this profile leaves
pub record IsLoaded (p : Profile) (given : List GivenFile) (r : Registry) : Type 0 where
  pub folder : Folder
  pub is : IsFolderState p given folder (state_of r)
