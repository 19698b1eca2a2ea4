-- Introspection of schema files: what fields resolve to there, and what it needs of the files.
use Rattle.std.specs.Prelude.{◌≡◌, ℕ, List, false, codes, eqb, Contains, Option, Some}
use Rattle.std.specs.List.{starts_with}
use Rattle.gql_ast.specs.declared.executable.OperationKind.TheVariants as operation
use Rattle.gql_ast.specs.declared.files.Files.{Files}
use Rattle.gql_ast.specs.declared.type_system.FieldDefinition.{FieldDefinition}
use Rattle.gql_ast.specs.declared.type_system.InputValueDefinition.{InputValueDefinition}
use Rattle.gql_ast.specs.declared.type_system.TypeExtension.{TypeExtension}
use Rattle.gql_built_in.specs.declared.sited.Sited.{Sited}
use Rattle.gql_types.specs.Definitions.{definitions, type_extensions}
use Rattle.gql_types.specs.Schemas.{root_of, schema_of}
use Rattle.gql_types.specs.Written.{written}
use Rattle.gql_types.specs.declared.roots.Root.{Root}
use Rattle.gql_intro.specs.Introspection.{Given, resolve}
use Rattle.gql_intro.specs.Made.{made_of}
use Rattle.gql_intro.specs.Nodes.{Node, Answer}
use Rattle.gql_intro.specs.SchemaNodes.{HasTypeNamed, IsFieldOf, IsInputOf, IsKnown}

-- What the field of this name of a node resolves to, where the schema is that of these files;
-- `None` if the node has no such field.
abbrev pub resolve_in : Files → Given → Node → List ℕ → Option Answer
resolve_in files given n name =
    resolve (schema_of files) (made_of files (schema_of files)) given n name

-- what introspection needs of schema files
pub record IsIntrospectable (files : Files) : Type 0 where
  -- the schema has the type of each of its fields,
  pub has_field_types : (f : FieldDefinition) → IsFieldOf (schema_of files) f
      → IsKnown (schema_of files) (written f.of_type)
  -- that of each of its arguments and input fields,
  pub has_input_types : (d : InputValueDefinition) → IsInputOf (schema_of files) d
      → IsKnown (schema_of files) (written d.of_type)
  -- and the query root
  pub has_query_root : (root : Root) × (root_of (schema_of files) operation.Query ≡ Some root)
      × HasTypeNamed (schema_of files) root.name.node.text
  -- no file extends a type of a reserved name, as those of introspection have
  pub extends_no_reserved : (e : Sited TypeExtension)
      → Contains (type_extensions (definitions files)) e
      → starts_with eqb e.node.name.text (codes "__") ≡ false
