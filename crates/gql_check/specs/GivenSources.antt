-- The files of a folder, as the files of a check.
use Rattle.std.specs.Prelude.{ℕ, ◌≡◌, ◌++◌, List, [], IsUtf8, Option, bytes_eq, codes, find, option_map, string_bytes}
use Rattle.std.specs.List.{AllZip}
use Rattle.gql_ast.specs.declared.fault.FileSide.{FileSide}
use Rattle.gql_ast.specs.declared.fault.FileSide.TheVariants.{Schema, Documents}
use Rattle.gql_findings.specs.Sources.{TextFile}
use Rattle.gql_folder.specs.declared.folder.Folder.{Folder}
use Rattle.gql_folder.specs.declared.folder.GivenFile.{GivenFile}
use Rattle.gql_folder.specs.declared.folder.NamedFile.{NamedFile}
use Rattle.gql_found.specs.Spots.{files_of, index_of}
use Rattle.gql_found.specs.declared.sources.Sources.{Sources}

-- a file given: its path as it is shown, which is below this folder, its path, and its text, which
-- is left empty if the bytes are not UTF-8
pub record IsSource (folder : List ℕ) (file : GivenFile) (source : TextFile) : Type 0 where
  pub label : source.label ≡ folder ++ codes "/" ++ string_bytes file.path
  pub path : source.path ≡ string_bytes file.path
  pub text : IsUtf8 file.bytes.items → source.text ≡ file.bytes.items
  pub no_text : (IsUtf8 file.bytes.items → ⊥) → source.text ≡ []

-- the files of a side
abbrev pub named_on : FileSide → Folder → List NamedFile
named_on Schema f = f.schema.items
named_on Documents f = f.documents.items

-- the index, among the files given, of the file of this name
abbrev pub index_in : List NamedFile → List ℕ → Option ℕ
index_in named name =
    option_map (λ (f : NamedFile). f.at) (find (λ (f : NamedFile). bytes_eq f.name name) named)

-- These are the files given, each below this folder; and each name of a side has the index of the
-- file that the folder has under it.
pub record AreSources (label : List ℕ) (given : List GivenFile) (f : Folder) (s : Sources)
    : Type 0 where
  pub listed : AllZip (IsSource label) given (files_of s)
  pub names : (side : FileSide) (name : List ℕ)
      → index_of s side name ≡ index_in (named_on side f) name
