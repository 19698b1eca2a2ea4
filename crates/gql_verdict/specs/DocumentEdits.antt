-- What an edit of a document file may change: the definitions of the file, and of the answers only
-- the fragments that the file has or had (GraphQL 2.8).
use Rattle.std.specs.Prelude.{◌≡◌, ℕ, List, [], ◌++◌, flat_map, map, false, Option, Some, None, Contains}
use Rattle.gql_ast.specs.FileMaps.{with_file, without_file}
use Rattle.gql_ast.specs.declared.definition.Definition.{Definition}
use Rattle.gql_ast.specs.declared.definition.Document.{Document}
use Rattle.gql_ast.specs.declared.files.Files.{Files}
use Rattle.gql_facts.specs.Facts.{fact_of, fragment_in}
use Rattle.gql_facts.specs.declared.fact.FragmentFact.{FragmentFact}
use Rattle.gql_facts.specs.declared.key.Key.{Key}
use Rattle.gql_verdict.specs.Definitions.{all_definitions}
use Rattle.gql_verdict.specs.FileOrder.{AreFilesPlaced}
use Rattle.gql_verdict.specs.TouchedFacts.{touches, touches_definition}
use Rattle.gql_verdict.specs.declared.touched.Touched.{Touched}
use Rattle.gql_verdict.specs.declared.touched.Touched.TheVariants as touched

-- the name of a fragment
abbrev pub name_of : FragmentFact → List ℕ
name_of f = f.fragment.name.text

-- the name of a definition that is a fragment
abbrev pub fragment_name_in : Definition → List (List ℕ)
fragment_name_in d = map name_of (fragment_in d)

-- the names of the fragments in a file, or none if there is no file
abbrev pub fragment_names : Option Document → List (List ℕ)
fragment_names None = []
fragment_names (Some document) = flat_map fragment_name_in document.definitions

-- what the edit of the document file of that name touches, by the file before and after it
abbrev pub touched_by : List ℕ → Option Document → Option Document → Touched
touched_by name before after = touched.File
    (record { file = name; fragments = fragment_names before ++ fragment_names after })

-- the files with this document file in the place of any of its name
abbrev pub with_document : Files → List ℕ → Document → Files
with_document files name document =
    record files { documents = with_file files.documents name document }

-- the files without the document file of that name
abbrev pub without_document : Files → List ℕ → Files
without_document files name = record files { documents = without_file files.documents name }

-- The files before and after an edit give the same answer to every key that is not touched. Each
-- definition after it that is not touched was there before, if each file has its own definitions.
pub record ChangesOnly (t : Touched) (before after : Files) : Type 0 where
  pub answers : (k : Key) → touches t k ≡ false → fact_of after k ≡ fact_of before k
  pub definitions : AreFilesPlaced after.documents
      → (d : Definition) → Contains (all_definitions after.documents) d
      → touches_definition t d ≡ false → Contains (all_definitions before.documents) d
