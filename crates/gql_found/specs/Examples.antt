-- Worked examples: names of files, places, and operations that an edit breaks.
use Rattle.std.specs.Prelude.{◌≡◌, List, [], ◌∷◌, Some, None, refl, codes}
use Rattle.std.specs.Option.{option_or}
use Rattle.gql_ast.specs.declared.executable.OperationKind.TheVariants.{Query}
use Rattle.gql_ast.specs.declared.fault.FileSide.TheVariants.{Schema, Documents}
use Rattle.gql_findings.specs.Sources.{TextFile}
use Rattle.gql_findings.specs.declared.finding.Affected.{Affected}
use Rattle.gql_found.specs.EditChecks.{at_places, shown_in}
use Rattle.gql_found.specs.RegistryFiles.{path_on}
use Rattle.gql_found.specs.Spots.{index_by}

-- a file has the path of its route
pub a_path : path_on Documents (codes "a") ≡ codes "documents/a"
a_path = refl

-- of two files of one name the first has it
pub first_has_it : option_or (index_by Schema (codes "s") 0 Schema (codes "s"))
    (index_by Schema (codes "s") 1 Schema (codes "s")) ≡ Some 0
first_has_it = refl

-- a schema file is not that of its name among documents
pub of_its_side : index_by Schema (codes "s") 0 Documents (codes "s") ≡ None
of_its_side = refl

-- the items at places of a list; where there is none, none is taken
pub two_items : at_places (codes "abc") (2 ∷ 0 ∷ 7 ∷ []) ≡ codes "ca"
two_items = refl

-- the files `schema/s` and `documents/a`
abbrev pub files : List TextFile
files = (record {
  label = codes "schema/s";
  path = codes "schema/s";
  text = codes "type Query { x: Int }";
}) ∷ (record {
  label = codes "documents/a";
  path = codes "documents/a";
  text = codes "query A { ...F } fragment F on Query { y }";
}) ∷ []

-- the operation A, which is not served through the fragment F
abbrev pub broken_a : Affected
broken_a = record {
  kind = Query;
  name = Some (codes "A");
  spot = record { source = 1; line = 1; column = 1; offset = 0 };
  through = Some (codes "F");
}

-- the same with the path of its file
pub shown_a : shown_in files broken_a ≡ (record {
  kind = Query;
  name = Some (codes "A");
  file = codes "documents/a";
  line = 1;
  column = 1;
  through = Some (codes "F");
})
shown_a = refl
