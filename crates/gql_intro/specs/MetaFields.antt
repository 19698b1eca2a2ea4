-- The three fields that no type lists, as definitions that are in no file (GraphQL 4.1, 4.2):
-- `__typename: String!`, `__schema: __Schema!` and `__type(name: String!): __Type`.
use Rattle.std.specs.Prelude.{ℕ, List, [], ◌∷◌, Option, Some, None, codes, bytes_eq, if◌then◌else◌}
use Rattle.gql_ast.specs.declared.text.Name.{Name}
use Rattle.gql_ast.specs.declared.type_ref.TypeRef.{TypeRef}
use Rattle.gql_ast.specs.declared.type_ref.TypeRef.TheVariants as r
use Rattle.gql_ast.specs.declared.type_system.FieldDefinition.{FieldDefinition}
use Rattle.gql_ast.specs.declared.type_system.InputValueDefinition.{InputValueDefinition}
use Rattle.gql_intro.specs.declared.meta_fields.MetaFields.{MetaFields}
pub use Rattle.gql_built_in.specs.BuiltInWords.{nowhere}

-- Name (2.1.9)
abbrev pub word : List ℕ → Name
word text = record { place = nowhere; text = text }

-- NamedType (2.11)
abbrev pub named : List ℕ → TypeRef
named text = r.Named (word text)

-- NonNullType of a NamedType (2.11)
abbrev pub required : List ℕ → TypeRef
required text = r.NonNull (named text)

-- an argument of this name and type, without default
abbrev pub argument : List ℕ → TypeRef → InputValueDefinition
argument name type = record {
  description = None;
  name = word name;
  of_type = type;
  default = None;
  directives = [];
}

-- a field of this name, with these arguments and this type
abbrev pub field : List ℕ → List InputValueDefinition → TypeRef → FieldDefinition
field name arguments type = record {
  description = None;
  name = word name;
  arguments = arguments;
  of_type = type;
  directives = [];
}

-- the three fields
abbrev pub meta_fields : MetaFields
meta_fields = record {
  typename = field (codes "__typename") [] (required (codes "String"));
  schema = field (codes "__schema") [] (required (codes "__Schema"));
  of_type = field (codes "__type") (argument (codes "name") (required (codes "String")) ∷ [])
      (named (codes "__Type"));
}

-- the field of this name among the three
abbrev pub meta_field : MetaFields → List ℕ → Option FieldDefinition
meta_field m name =
    if bytes_eq name (codes "__typename") then Some m.typename
    else if bytes_eq name (codes "__schema") then Some m.schema
    else if bytes_eq name (codes "__type") then Some m.of_type
    else None
