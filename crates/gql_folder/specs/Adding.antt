-- Helper definitions for private contracts: a file that is added to those of a side.
use Rattle.std.specs.Prelude.{ℕ, ◌≡◌, ◌≤◌, List, Contains, length}
use Rattle.gql_ast.specs.declared.fault.FileSide.{FileSide}
use Rattle.gql_folder.specs.declared.folder.FolderFault.{FolderFault}
use Rattle.gql_folder.specs.declared.folder.FolderFault.TheVariants.{Misnamed, Twice, TooMany, Memory}
use Rattle.gql_folder.specs.declared.folder.NamedFile.{NamedFile}

-- none of these files has this name
abbrev pub IsFresh : List ℕ → List NamedFile → Type 0
IsFresh name named = (f : NamedFile) → Contains named f → f.name ≡ name → ⊥

-- the file is one of these, and has this name
abbrev pub IsFound : List ℕ → List NamedFile → NamedFile → Type 0
IsFound name named f = Contains named f × (f.name ≡ name)

-- why a file of this name is not added to these, where there may be so many
abbrev pub IsAddFault : ℕ → FileSide → List ℕ → ℕ → List NamedFile → FolderFault → Type 0
IsAddFault most side name at named (Misnamed other) = ⊥
IsAddFault most side name at named (Twice first other) =
    (other ≡ at) × (f : NamedFile) × IsFound name named f × (f.at ≡ first)
IsAddFault most side name at named (TooMany other) = (other ≡ side) × (most ≤ length named)
IsAddFault most side name at named Memory = Unit {0}
