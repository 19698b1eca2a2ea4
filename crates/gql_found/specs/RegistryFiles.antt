-- The files of a registry, as the files of a check.
use Rattle.std.specs.Prelude.{ℕ, suc, ◌≡◌, ◌&&◌, ◌++◌, List, [], ◌∷◌, Bool, Option, Some, None, bytes_eq, codes, if◌then◌else◌, map}
use Rattle.gql_ast.specs.declared.fault.FileSide.{FileSide}
use Rattle.gql_ast.specs.declared.fault.FileSide.TheVariants.{Schema, Documents}
use Rattle.gql_findings.specs.Sources.{TextFile}
use Rattle.gql_found.specs.Spots.{files_of, index_of, same_side}
use Rattle.gql_found.specs.declared.registry_files.FileText.{FileText}
use Rattle.gql_found.specs.declared.sources.Sources.{Sources}

-- the path of the files of a side
abbrev pub folder_of : FileSide → List ℕ
folder_of Schema = codes "schema/"
folder_of Documents = codes "documents/"

-- the path of a file of a registry: that of its route
abbrev pub path_on : FileSide → List ℕ → List ℕ
path_on side name = folder_of side ++ name

-- a file of a registry, as one of a check
abbrev pub source_of : FileText → TextFile
source_of t = record {
  label = path_on t.side t.name.now;
  path = path_on t.side t.name.now;
  text = t.text.now;
}

-- whether a file is that of a name on a side
abbrev pub is_under : FileSide → List ℕ → FileText → Bool
is_under side name t = same_side t.side side && bytes_eq t.name.now name

-- the index of the first of these files that is that of a name on a side, where the first of all has
-- this index
abbrev pub index_from : ℕ → FileSide → List ℕ → List FileText → Option ℕ
index_from i side name [] = None
index_from i side name (t ∷ ts) =
    if is_under side name t then Some i else index_from (suc i) side name ts

-- these are the files of a registry with these texts, each under its name
pub record AreSourcesOf (texts : List FileText) (s : Sources) : Type 0 where
  pub listed : files_of s ≡ map source_of texts
  pub names : (side : FileSide) (name : List ℕ)
      → index_of s side name ≡ index_from 0 side name texts
