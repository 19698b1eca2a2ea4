-- The files that a check is of, by their names in a registry, and places of a report as places in
-- them.
use Rattle.std.specs.Prelude.{ℕ, ◌≡◌, ◌&&◌, List, Bool, true, false, Option, Some, None, bytes_eq, if◌then◌else◌, unwrap_or}
use Rattle.std.specs.Option.{option_or}
use Rattle.gql_ast.specs.FileMaps.{file_named}
use Rattle.gql_ast.specs.Trees as trees
use Rattle.gql_ast.specs.declared.definition.Definition.{Definition}
use Rattle.gql_ast.specs.declared.fault.FilePlace.{FilePlace}
use Rattle.gql_ast.specs.declared.fault.FileSide.{FileSide}
use Rattle.gql_ast.specs.declared.fault.FileSide.TheVariants.{Schema, Documents}
use Rattle.gql_findings.specs.Sources.{TextFile}
use Rattle.gql_findings.specs.declared.finding.Spot.{Spot}
use Rattle.gql_found.specs.declared.sources.Sources.{Sources}

-- the files, in their order
abbrev pub files_of : Sources → List TextFile
files_of s = s.listed.items

-- the index of each file of a side under its name
abbrev pub names_on : FileSide → Sources → List (List ℕ × ℕ)
names_on Schema s = s.schema
names_on Documents s = s.documents

-- the index of the file of a name on a side, if there is one
abbrev pub index_of : Sources → FileSide → List ℕ → Option ℕ
index_of s side name = file_named (names_on side s) name

-- a place of a report: the index of its file (0 if there is no such file), its line, its column and
-- its offset
abbrev pub spot_of : Sources → FilePlace → Spot
spot_of s p = record {
  source = unwrap_or (index_of s p.side p.file) 0;
  line = p.place.line;
  column = p.place.column;
  offset = p.place.offset;
}

-- the place where a definition of a document starts
abbrev pub start_of : Definition → FilePlace
start_of d = record { side = Documents; file = d.file; place = trees.place_of d.tree }

-- ---- names that are given

-- whether two sides are the same
abbrev pub same_side : FileSide → FileSide → Bool
same_side Schema Schema = true
same_side Documents Documents = true
same_side Schema Documents = false
same_side Documents Schema = false

-- the index that another name of a side has by a name of a side that has this one
abbrev pub index_by : FileSide → List ℕ → ℕ → FileSide → List ℕ → Option ℕ
index_by side name at other q = if same_side side other && bytes_eq name q then Some at else None

-- the name of a side has this index, if it had none; all others have those that they had
abbrev pub IsNamed : FileSide → List ℕ → ℕ → Sources → Sources → Type 0
IsNamed side name at old new = (other : FileSide) (q : List ℕ)
    → index_of new other q ≡ option_or (index_of old other q) (index_by side name at other q)

-- no name has an index
abbrev pub HasNoNames : Sources → Type 0
HasNoNames s = (side : FileSide) (name : List ℕ) → index_of s side name ≡ None

-- each name has the index that it had
abbrev pub HaveSameNames : Sources → Sources → Type 0
HaveSameNames old new = (other : FileSide) (q : List ℕ) → index_of new other q ≡ index_of old other q
