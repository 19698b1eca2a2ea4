-- Helper definitions for private contracts: definitions of types that the code borrows, and all
-- definitions of a schema but those.
use Rattle.std.specs.Prelude.{Bool, true, false, List, filter}
use Rattle.std.specs.Option.{option_copied}
use Rattle.gql_ast.specs.declared.definition.Tree.{Tree}
use Rattle.gql_ast.specs.declared.definition.Tree.TheVariants as tree
use Rattle.gql_ast.specs.declared.type_system.TypeDefinition.{TypeDefinition}
use Rattle.gql_built_in.specs.declared.sited.Sited.{Sited}
use Rattle.gql_types.specs.Definitions.{directive_definitions}
use Rattle.gql_types.specs.Possible.{all_possible}
use Rattle.gql_types.specs.Schemas.{roots_in}
use Rattle.gql_types.specs.declared.schema.Schema.{Schema}
use Rattle.gql_types.specs.declared.schema_type.SchemaType.{SchemaType}
use Rattle.gql_types.specs.declared.type_site.TypeSite.{TypeSite}

-- a borrowed definition with its file, as a value
abbrev pub site : TypeSite → Sited TypeDefinition
site s = record { file = option_copied s.file; node = s.node.now }

-- whether it is not the definition of a type
abbrev pub is_other : Tree → Bool
is_other (tree.Type definition) = false
is_other (tree.Operation operation) = true
is_other (tree.Fragment fragment) = true
is_other (tree.Schema definition) = true
is_other (tree.Directive definition) = true
is_other (tree.SchemaExtension extension) = true
is_other (tree.TypeExtension extension) = true

-- those of these definitions that are not of types
abbrev pub others_in : List (Sited Tree) → List (Sited Tree)
others_in ds = filter (λ (d : Sited Tree). is_other d.node) ds

-- the schema with these types, by the definitions that are not of types
abbrev pub schema_with : List SchemaType → List (Sited Tree) → Schema
schema_with types others = record {
  types = types;
  directives = directive_definitions others;
  roots = roots_in others types;
  possible = all_possible types;
}
