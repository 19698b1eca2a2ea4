-- The fragments of one document file.
use Rattle.std.specs.Prelude.{List, [], flat_map, Option, Some, None}
use Rattle.gql_ast.specs.declared.definition.Document.{Document}
use Rattle.gql_facts.specs.Facts.{fragment_in}
use Rattle.gql_facts.specs.declared.fact.FragmentFact.{FragmentFact}

-- the fragments of a file, or none if there is no file
abbrev pub fragments_in : Option Document → List FragmentFact
fragments_in None = []
fragments_in (Some document) = flat_map fragment_in document.definitions
