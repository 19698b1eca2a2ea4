-- The types of answers (GraphQL 4.1, 4.2): which answers are of a type, and which fields a node
-- has.
use Rattle.std.specs.Prelude.{◌≡◌, ℕ, List, Bool, false, codes, Contains, map, Option, Some, None}
use Rattle.gql_ast.specs.declared.type_system.EnumValueDefinition.{EnumValueDefinition}
use Rattle.gql_ast.specs.declared.type_system.FieldDefinition.{FieldDefinition}
use Rattle.gql_built_in.specs.declared.sited.Sited.{Sited}
use Rattle.gql_types.specs.RequiredInputs.{is_non_null}
use Rattle.gql_types.specs.Schemas.{enum_named, field_named}
use Rattle.gql_types.specs.Written.{Written, named, listed, required, written}
use Rattle.gql_types.specs.declared.schema.Schema.{Schema}
use Rattle.gql_intro.specs.MetaFields.{meta_fields}
use Rattle.gql_intro.specs.Nodes.{Node, query_root, schema, named_type, list_type, non_null_type, field, input_value, enum_value, directive, Answer, null, text, truth, enum_name, enum_names, node, nodes}

-- the name of the type of introspection that a node is an object of; the query root has a type of
-- the schema
abbrev pub type_name_of : Node → Option (List ℕ)
type_name_of query_root = None
type_name_of schema = Some (codes "__Schema")
type_name_of (named_type t) = Some (codes "__Type")
type_name_of (list_type item) = Some (codes "__Type")
type_name_of (non_null_type nullable) = Some (codes "__Type")
type_name_of (field f) = Some (codes "__Field")
type_name_of (input_value d) = Some (codes "__InputValue")
type_name_of (enum_value v) = Some (codes "__EnumValue")
type_name_of (directive d) = Some (codes "__Directive")

-- whether the enum of the first name has a value of the second
abbrev pub HasValue : Schema → List ℕ → List ℕ → Type 0
HasValue s enum value = (values : List (Sited EnumValueDefinition))
    × (enum_named s enum ≡ Some values)
    × Contains (map (λ (v : Sited EnumValueDefinition). v.node.name.text) values) value

-- an answer of a type
pub data HasType (s : Schema) : Written → Answer → Type 0 where
  -- null is of each type that is not Non-Null
  of_null : {t : Written} → is_non_null t ≡ false → HasType s t null
  -- what is of a type, and not null, is of the Non-Null type of that type
  of_non_null : {t : Written} {a : Answer} → HasType s t a → (a ≡ null → ⊥)
      → HasType s (required t) a
  -- a text is of the type String
  of_text : {t : List ℕ} → HasType s (named (codes "String")) (text t)
  -- a truth value is of the type Boolean
  of_truth : {b : Bool} → HasType s (named (codes "Boolean")) (truth b)
  -- the name of a value of an enum is of that enum
  of_enum_name : {enum name : List ℕ} → HasValue s enum name
      → HasType s (named enum) (enum_name name)
  -- names of values are of a list type, if each of them is of the type of its items
  of_enum_names : {t : Written} {names : List (List ℕ)}
      → ((name : List ℕ) → Contains names name → HasType s t (enum_name name))
      → HasType s (listed t) (enum_names names)
  -- a node is of the type that it is an object of
  of_node : {n : Node} {of_type : List ℕ} → type_name_of n ≡ Some of_type
      → HasType s (named of_type) (node n)
  -- nodes are of a list type, if each of them is of the type of its items
  of_nodes : {t : Written} {ns : List Node}
      → ((n : Node) → Contains ns n → HasType s t (node n)) → HasType s (listed t) (nodes ns)

-- a node has a field of this name and type
pub data HasField (s : Schema) : Node → List ℕ → Written → Type 0 where
  -- a field that the type of the node lists
  own_field : {n : Node} {of_type name : List ℕ} {d : Sited FieldDefinition}
      → type_name_of n ≡ Some of_type → field_named s of_type name ≡ Some d
      → HasField s n name (written d.node.of_type)
  -- every node has `__typename`
  typename_field : {n : Node}
      → HasField s n (codes "__typename") (written meta_fields.typename.of_type)
  -- the query root has `__schema`
  schema_field : HasField s query_root (codes "__schema") (written meta_fields.schema.of_type)
  -- the query root has `__type`
  type_field : HasField s query_root (codes "__type") (written meta_fields.of_type.of_type)
