-- The nodes of schema files (GraphQL 3.3 to 3.13): their definitions and extensions, and the parts
-- of these. A second definition of a name counts, and so does an extension of a type that does not
-- exist.
use Rattle.std.specs.Prelude.{List, [], ◌∷◌, ◌++◌, map, flat_map}
use Rattle.gql_ast.specs.declared.definition.Tree.{Tree}
use Rattle.gql_ast.specs.declared.definition.Tree.TheVariants as tree
use Rattle.gql_ast.specs.declared.type_system.TypeParts.{TypeParts}
use Rattle.gql_ast.specs.declared.type_system.TypeDefinition.{TypeDefinition}
use Rattle.gql_ast.specs.declared.type_system.TypeExtension.{TypeExtension}
use Rattle.gql_ast.specs.declared.type_system.DirectiveDefinition.{DirectiveDefinition}
use Rattle.gql_ast.specs.declared.type_system.SchemaDefinition.{SchemaDefinition}
use Rattle.gql_ast.specs.declared.type_system.SchemaExtension.{SchemaExtension}
use Rattle.gql_ast.specs.declared.type_system.FieldDefinition.{FieldDefinition}
use Rattle.gql_ast.specs.declared.type_system.EnumValueDefinition.{EnumValueDefinition}
use Rattle.gql_ast.specs.declared.type_system.InputValueDefinition.{InputValueDefinition}
use Rattle.gql_built_in.specs.declared.sited.Sited.{Sited}
use Rattle.gql_types.specs.Parts.{fields_of, values_of, input_fields_of, sited}

-- a part of each of these nodes
abbrev pub each : {A B : Type 0} → (A → B) → List (Sited A) → List (Sited B)
each part nodes = map (λ n. record { file = n.file; node = part n.node }) nodes

-- the parts of all these nodes
abbrev pub within : {A B : Type 0} → (A → List B) → List (Sited A) → List (Sited B)
within held nodes = flat_map (λ n. sited n.file (held n.node)) nodes

-- the definition of a type, if this is one
abbrev pub type_of : Tree → List TypeDefinition
type_of (tree.Type definition) = definition ∷ []
type_of (tree.Operation operation) = []
type_of (tree.Fragment fragment) = []
type_of (tree.Schema definition) = []
type_of (tree.Directive definition) = []
type_of (tree.SchemaExtension extension) = []
type_of (tree.TypeExtension extension) = []

-- the extension of a type, if this is one
abbrev pub type_extension_of : Tree → List TypeExtension
type_extension_of (tree.TypeExtension extension) = extension ∷ []
type_extension_of (tree.Operation operation) = []
type_extension_of (tree.Fragment fragment) = []
type_extension_of (tree.Schema definition) = []
type_extension_of (tree.Type definition) = []
type_extension_of (tree.Directive definition) = []
type_extension_of (tree.SchemaExtension extension) = []

-- the definition of a directive, if this is one
abbrev pub directive_of : Tree → List DirectiveDefinition
directive_of (tree.Directive definition) = definition ∷ []
directive_of (tree.Operation operation) = []
directive_of (tree.Fragment fragment) = []
directive_of (tree.Schema definition) = []
directive_of (tree.Type definition) = []
directive_of (tree.SchemaExtension extension) = []
directive_of (tree.TypeExtension extension) = []

-- the definition of the schema, if this is one
abbrev pub schema_of : Tree → List SchemaDefinition
schema_of (tree.Schema definition) = definition ∷ []
schema_of (tree.Operation operation) = []
schema_of (tree.Fragment fragment) = []
schema_of (tree.Type definition) = []
schema_of (tree.Directive definition) = []
schema_of (tree.SchemaExtension extension) = []
schema_of (tree.TypeExtension extension) = []

-- the extension of the schema, if this is one
abbrev pub schema_extension_of : Tree → List SchemaExtension
schema_extension_of (tree.SchemaExtension extension) = extension ∷ []
schema_extension_of (tree.Operation operation) = []
schema_extension_of (tree.Fragment fragment) = []
schema_extension_of (tree.Schema definition) = []
schema_extension_of (tree.Type definition) = []
schema_extension_of (tree.Directive definition) = []
schema_extension_of (tree.TypeExtension extension) = []

-- the definitions of types; one of Float counts too
abbrev pub types : List (Sited Tree) → List (Sited TypeDefinition)
types ds = within type_of ds

-- the extensions of types
abbrev pub type_extensions : List (Sited Tree) → List (Sited TypeExtension)
type_extensions ds = within type_extension_of ds

-- the definitions of directives
abbrev pub directives : List (Sited Tree) → List (Sited DirectiveDefinition)
directives ds = within directive_of ds

-- the definitions of the schema
abbrev pub schemas : List (Sited Tree) → List (Sited SchemaDefinition)
schemas ds = within schema_of ds

-- the extensions of the schema
abbrev pub schema_extensions : List (Sited Tree) → List (Sited SchemaExtension)
schema_extensions ds = within schema_extension_of ds

-- the parts of definitions of types, then those of their extensions
abbrev pub parts : List (Sited Tree) → List (Sited TypeParts)
parts ds = each (λ (d : TypeDefinition). d.parts) (types ds)
    ++ each (λ (e : TypeExtension). e.parts) (type_extensions ds)

-- the fields of objects and interfaces (3.6, 3.7)
abbrev pub fields : List (Sited Tree) → List (Sited FieldDefinition)
fields ds = within fields_of (parts ds)

-- the values of enums (3.9)
abbrev pub values : List (Sited Tree) → List (Sited EnumValueDefinition)
values ds = within values_of (parts ds)

-- the fields of input objects (3.10)
abbrev pub input_fields : List (Sited Tree) → List (Sited InputValueDefinition)
input_fields ds = within input_fields_of (parts ds)

-- the arguments of fields (3.6.1), then those of directives (3.13)
abbrev pub arguments : List (Sited Tree) → List (Sited InputValueDefinition)
arguments ds = within (λ (f : FieldDefinition). f.arguments) (fields ds)
    ++ within (λ (d : DirectiveDefinition). d.arguments) (directives ds)

-- all nodes, by their forms
pub record AllNodes : Type 0 where
  pub types : List (Sited TypeDefinition)
  pub type_extensions : List (Sited TypeExtension)
  pub directives : List (Sited DirectiveDefinition)
  pub schemas : List (Sited SchemaDefinition)
  pub schema_extensions : List (Sited SchemaExtension)
  pub parts : List (Sited TypeParts)
  pub fields : List (Sited FieldDefinition)
  pub values : List (Sited EnumValueDefinition)
  pub input_fields : List (Sited InputValueDefinition)
  pub arguments : List (Sited InputValueDefinition)

-- the nodes of these definitions
abbrev pub nodes_of : List (Sited Tree) → AllNodes
nodes_of ds = record {
  types = types ds;
  type_extensions = type_extensions ds;
  directives = directives ds;
  schemas = schemas ds;
  schema_extensions = schema_extensions ds;
  parts = parts ds;
  fields = fields ds;
  values = values ds;
  input_fields = input_fields ds;
  arguments = arguments ds;
}
