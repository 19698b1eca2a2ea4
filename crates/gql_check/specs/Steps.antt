-- Helper definitions for private contracts: what the parts of a check come to.
use Rattle.std.specs.Prelude.{◌≡◌, ℕ, List, Option, Some, None, if◌then◌else◌, length}
use Rattle.std.specs.Option.{option_or}
use Rattle.gql_ast.specs.declared.fault.FileSide.{FileSide}
use Rattle.gql_ast.specs.declared.profile.Profile.{Profile}
use Rattle.gql_check.specs.Faults.{AreRefused, AreRefusedFiles}
use Rattle.gql_check.specs.GivenSources.{index_in}
use Rattle.gql_check.specs.Loads.{folder_edit, folder_indices}
use Rattle.gql_check.specs.declared.fault.CheckFault.{CheckFault}
use Rattle.gql_check.specs.declared.fault.CheckFault.TheVariants.{Refused, Memory}
use Rattle.gql_check.specs.declared.loading.Puts.{Puts}
use Rattle.gql_folder.specs.declared.folder.Folder.{Folder}
use Rattle.gql_folder.specs.declared.folder.GivenFile.{GivenFile}
use Rattle.gql_folder.specs.declared.folder.NamedFile.{NamedFile}
use Rattle.gql_found.specs.Spots.{index_of, same_side}
use Rattle.gql_found.specs.declared.sources.Sources.{Sources}
use Rattle.gql_registry.specs.Changes.{edit_of}
use Rattle.gql_registry.specs.Edits.{Change, IsAccepted, IsFirstRefusal}
use Rattle.gql_registry.specs.State.{empty_in}
use Rattle.gql_registry.specs.declared.refusal.Refusal.{Refusal}

-- ---- names of files

-- the index that these files of a side give to a name of a side
abbrev pub index_among : FileSide → List NamedFile → FileSide → List ℕ → Option ℕ
index_among side named other q = if same_side side other then index_in named q else None

-- each name has the index that it had, or else that of these files of a side
abbrev pub AreNamedAll : FileSide → List NamedFile → Sources → Sources → Type 0
AreNamedAll side named old new = (other : FileSide) (q : List ℕ)
    → index_of new other q ≡ option_or (index_of old other q) (index_among side named other q)

-- ---- files that are put

-- the changes that put the files of a folder, and the index of each file
pub record ArePuts (given : List GivenFile) (f : Folder) (p : Puts) : Type 0 where
  pub edit : edit_of p.puts.items ≡ folder_edit given f
  pub indices : p.indices.items ≡ folder_indices f

-- what a new registry of this profile answers to a change: nothing if it accepts it, or its refusal
abbrev pub IsAnswer : Profile → Change → Option Refusal → Type 0
IsAnswer p c None = IsAccepted (empty_in p) c
IsAnswer p c (Some r) = IsFirstRefusal (empty_in p) c r

-- The files that are refused when all are put, or that an allocation failed.
abbrev pub IsPutFault : Profile → Puts → CheckFault → Type 0
IsPutFault profile p (Refused es) =
    AreRefused profile (edit_of p.puts.items) p.indices.items (length p.puts.items) es.items
IsPutFault profile p Memory = Unit {0}
IsPutFault profile p _ = ⊥

-- why the files of a folder are not put
abbrev pub IsLoadFault : Profile → List GivenFile → Folder → CheckFault → Type 0
IsLoadFault p given f Memory = Unit {0}
IsLoadFault p given f (Refused es) = AreRefusedFiles p given f es.items
IsLoadFault p given f _ = ⊥
