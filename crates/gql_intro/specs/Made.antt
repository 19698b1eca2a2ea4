-- The schema as introspection shows it (GraphQL 4.2.1): which types it has, in which order, and its
-- description.
use Rattle.std.specs.Prelude.{ℕ, List, [], ◌∷◌, Bool, true, Option, Some, None, option_and_then, codes, map, filter, bytes_eq, if◌then◌else◌}
use Rattle.std.specs.Option.{option_or}
use Rattle.gql_ast.specs.declared.definition.Definition.{Definition}
use Rattle.gql_ast.specs.declared.definition.Document.{Document}
use Rattle.gql_ast.specs.declared.definition.Tree.{Tree}
use Rattle.gql_ast.specs.declared.definition.Tree.TheVariants as tree
use Rattle.gql_ast.specs.declared.files.Files.{Files}
use Rattle.gql_ast.specs.declared.type_system.SchemaDefinition.{SchemaDefinition}
use Rattle.gql_types.specs.Possible.{in_order, name_of}
use Rattle.gql_types.specs.declared.schema.Schema.{Schema}
use Rattle.gql_intro.specs.declared.made.IntroSchema.{IntroSchema}
use Rattle.gql_intro.specs.MetaFields.{meta_fields}
use Rattle.gql_intro.specs.References.{refer}

-- whether introspection shows a type of this name: Int, ID and Float only if the schema files refer
-- to them (a schema may leave out a scalar that it does not use, GraphQL 3.5.1, 3.5.2 and 3.5.5)
abbrev pub is_shown : Bool → Bool → Bool → List ℕ → Bool
is_shown has_int has_id has_float name =
    if bytes_eq name (codes "Int") then has_int
    else if bytes_eq name (codes "ID") then has_id
    else if bytes_eq name (codes "Float") then has_float
    else true

-- the names of the types that introspection shows, in the order of their bytes
abbrev pub shown_types : Schema → Bool → Bool → Bool → List (List ℕ)
shown_types s has_int has_id has_float =
    in_order (filter (is_shown has_int has_id has_float) (map name_of s.types))

-- the schema definition, if this is one
abbrev pub schema_of : Tree → Option SchemaDefinition
schema_of (tree.Schema definition) = Some definition
schema_of (tree.Operation operation) = None
schema_of (tree.Fragment fragment) = None
schema_of (tree.Type definition) = None
schema_of (tree.Directive definition) = None
schema_of (tree.SchemaExtension extension) = None
schema_of (tree.TypeExtension extension) = None

-- the first schema definition among these
abbrev pub schema_in : List Definition → Option SchemaDefinition
schema_in [] = None
schema_in (d ∷ ds) = option_or (schema_of d.tree) (schema_in ds)

-- the first schema definition in these files
abbrev pub first_schema : List (List ℕ × Document) → Option SchemaDefinition
first_schema [] = None
first_schema (file ∷ files) = option_or (schema_in file.1.definitions) (first_schema files)

-- the description of the schema, which is that of its definition
abbrev pub description_of : List (List ℕ × Document) → Option (List ℕ)
description_of files =
    option_and_then (λ (d : SchemaDefinition). d.description) (first_schema files)

-- what is made once for the schema of these files
abbrev pub made_of : Files → Schema → IntroSchema
made_of files s = record {
  types = shown_types s (refer files.schema (codes "Int")) (refer files.schema (codes "ID"))
      (refer files.schema (codes "Float"));
  has_int = refer files.schema (codes "Int");
  has_id = refer files.schema (codes "ID");
  has_float = refer files.schema (codes "Float");
  description = description_of files.schema;
  meta = meta_fields;
}
