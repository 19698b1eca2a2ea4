-- The place of a definition, and what identifies it.
use Rattle.gql_text.specs.declared.place.Place.{Place}
use Rattle.gql_ast.specs.declared.definition.Tree.{Tree}
use Rattle.gql_ast.specs.declared.definition.Tree.TheVariants as tree
use Rattle.gql_ast.specs.declared.definition.Definition.{Definition}
use Rattle.gql_ast.specs.declared.definition.DefinitionId.{DefinitionId}

-- where a definition starts: the place of its first token
abbrev pub place_of : Tree → Place
place_of (tree.Operation operation) = operation.place
place_of (tree.Fragment fragment) = fragment.place
place_of (tree.Schema definition) = definition.place
place_of (tree.Type definition) = definition.place
place_of (tree.Directive definition) = definition.place
place_of (tree.SchemaExtension extension) = extension.place
place_of (tree.TypeExtension extension) = extension.place

-- what identifies a definition: its file, and the offset of its first token
abbrev pub id_of : Definition → DefinitionId
id_of d = record { file = d.file; offset = (place_of d.tree).offset }
