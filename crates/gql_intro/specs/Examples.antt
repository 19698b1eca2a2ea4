-- Worked examples of the definitions.
use Rattle.std.specs.Prelude.{◌≡◌, ℕ, List, [], ◌∷◌, codes, refl, Some, None, true, false}
use Rattle.gql_text.specs.declared.place.Place.{Place}
use Rattle.gql_ast.specs.declared.executable.OperationKind.TheVariants as operation
use Rattle.gql_ast.specs.declared.literal.Directive.{Directive}
use Rattle.gql_ast.specs.declared.literal.Literal.TheVariants as l
use Rattle.gql_ast.specs.declared.text.Name.{Name}
use Rattle.gql_ast.specs.declared.type_ref.TypeRef.TheVariants as t
use Rattle.gql_ast.specs.declared.type_system.DirectiveDefinition.{DirectiveDefinition}
use Rattle.gql_ast.specs.declared.type_system.FieldDefinition.{FieldDefinition}
use Rattle.gql_ast.specs.declared.type_system.InputValueDefinition.{InputValueDefinition}
use Rattle.gql_ast.specs.declared.type_system.TypeParts.{TypeParts}
use Rattle.gql_ast.specs.declared.type_system.TypeParts.TheVariants as parts
use Rattle.gql_built_in.specs.declared.sited.Sited.{Sited}
use Rattle.gql_types.specs.Written.{named, required}
use Rattle.gql_types.specs.declared.kind.TypeKind.{TypeKind}
use Rattle.gql_types.specs.declared.kind.TypeKind.TheVariants as kind
use Rattle.gql_types.specs.declared.schema.Schema.{Schema}
use Rattle.gql_types.specs.declared.schema_type.SchemaType.{SchemaType}
use Rattle.gql_types.specs.Applied.{null_is_none}
use Rattle.gql_intro.specs.Applied.{deprecation_reason}
use Rattle.gql_intro.specs.declared.made.IntroSchema.{IntroSchema}
use Rattle.gql_intro.specs.Introspection.{Given, resolve}
use Rattle.gql_intro.specs.Made.{shown_types}
use Rattle.gql_intro.specs.MetaFields.{meta_fields}
use Rattle.gql_intro.specs.Nodes.{query_root, schema, named_type, list_type, non_null_type, field, input_value, directive, null, text, truth, enum_name, node, nodes}

-- a name at a place
abbrev name : Place → List ℕ → Name
name p n = record { place = p; text = n }

-- the directive `@deprecated`
abbrev deprecated : Place → Directive
deprecated p = record { place = p; name = name p (codes "deprecated"); arguments = [] }

-- the directive `@deprecated(reason: null)`
abbrev deprecated_by_null : Place → Directive
deprecated_by_null p = record {
  place = p;
  name = name p (codes "deprecated");
  arguments = record { name = name p (codes "reason"); value = l.Null p } ∷ [];
}

-- a field of type Int
abbrev int_field : Place → List ℕ → List Directive → FieldDefinition
int_field p n directives = record {
  description = None;
  name = name p n;
  arguments = [];
  of_type = t.Named (name p (codes "Int"));
  directives = directives;
}

-- the field `new: Int`
abbrev new_field : Place → FieldDefinition
new_field p = int_field p (codes "new") []

-- the field `old: Int @deprecated`
abbrev old_field : Place → FieldDefinition
old_field p = int_field p (codes "old") (deprecated p ∷ [])

-- a type of this kind, with these parts and fields
abbrev a_type : Place → TypeKind → TypeParts → List (Sited FieldDefinition) → List ℕ → SchemaType
a_type p its_kind its_parts fields n = record {
  definition = record {
    file = None;
    node = record {
      place = p;
      description = Some (codes "words");
      name = name p n;
      directives = [];
      parts = its_parts;
    };
  };
  extensions = [];
  kind = its_kind;
  interfaces = [];
  fields = fields;
  members = [];
  values = [];
  input_fields = [];
}

-- the scalar Int
abbrev int : Place → SchemaType
int p = a_type p kind.Scalar parts.Scalar [] (codes "Int")

-- the type `Query { old: Int @deprecated new: Int }`
abbrev query : Place → SchemaType
query p = a_type p kind.Object (parts.Object [] (old_field p ∷ new_field p ∷ []))
    (record { file = None; node = old_field p } ∷ record { file = None; node = new_field p } ∷ [])
    (codes "Query")

-- `type Query { old: Int @deprecated new: Int }`, with the scalars Int, ID and Float
abbrev the_schema : Place → Schema
the_schema p = record {
  types = query p ∷ int p ∷ a_type p kind.Scalar parts.Scalar [] (codes "ID")
      ∷ a_type p kind.Scalar parts.Scalar [] (codes "Float") ∷ [];
  directives = [];
  roots = record {
    kind = operation.Query;
    entry = None;
    name = record { file = None; node = name p (codes "Query") };
  } ∷ [];
  possible = [];
}

-- what is made for that schema, whose files refer to Int and neither to ID nor to Float
abbrev made : IntroSchema
made = record {
  types = codes "Int" ∷ codes "Query" ∷ [];
  has_int = true;
  has_id = false;
  has_float = false;
  description = None;
  meta = meta_fields;
}

-- no arguments
abbrev plain : Given
plain = record { name = None; include_deprecated = None }

-- the argument `name`
abbrev by_name : List ℕ → Given
by_name n = record { name = Some n; include_deprecated = None }

-- the types in the order of their names, without ID and Float
types_in_order : (p : Place) → shown_types (the_schema p) true false false
    ≡ codes "Int" ∷ codes "Query" ∷ []
types_in_order p = refl

-- `{ __schema { types } }`
types_of_schema : (p : Place) → resolve (the_schema p) made plain schema (codes "types")
    ≡ Some (nodes (named_type (int p) ∷ named_type (query p) ∷ []))
types_of_schema p = refl

-- `{ __type(name: "Query") }` is a type, and `{ __type(name: "ID") }` is null
type_query : (p : Place)
    → resolve (the_schema p) made (by_name (codes "Query")) query_root (codes "__type")
    ≡ Some (node (named_type (query p)))
type_query p = refl

type_id : (p : Place)
    → resolve (the_schema p) made (by_name (codes "ID")) query_root (codes "__type") ≡ Some null
type_id p = refl

-- so is `{ __type(name: "Float") }`, as the files do not refer to Float
type_float : (p : Place)
    → resolve (the_schema p) made (by_name (codes "Float")) query_root (codes "__type") ≡ Some null
type_float p = refl

-- `fields`, and `fields(includeDeprecated: true)`
fields_of_query : (p : Place)
    → resolve (the_schema p) made plain (named_type (query p)) (codes "fields")
    ≡ Some (nodes (field (new_field p) ∷ []))
fields_of_query p = refl

all_fields_of_query : (p : Place)
    → resolve (the_schema p) made (record { name = None; include_deprecated = Some true })
    (named_type (query p)) (codes "fields")
    ≡ Some (nodes (field (old_field p) ∷ field (new_field p) ∷ []))
all_fields_of_query p = refl

-- `fields(includeDeprecated: false)`
some_fields_of_query : (p : Place)
    → resolve (the_schema p) made (record { name = None; include_deprecated = Some false })
    (named_type (query p)) (codes "fields")
    ≡ Some (nodes (field (new_field p) ∷ []))
some_fields_of_query p = refl

-- `fields` of a scalar is null, `ofType` of a type of the schema too, and no type has a field
-- `size`
fields_of_int : (p : Place)
    → resolve (the_schema p) made plain (named_type (int p)) (codes "fields") ≡ Some null
fields_of_int p = refl

of_type_of_query : (p : Place)
    → resolve (the_schema p) made plain (named_type (query p)) (codes "ofType") ≡ Some null
of_type_of_query p = refl

no_such_field : (p : Place)
    → resolve (the_schema p) made plain (named_type (query p)) (codes "size") ≡ None
no_such_field p = refl

-- the kind, the name and the `ofType` of `[Int!]`
kind_of_list : (p : Place)
    → resolve (the_schema p) made plain (list_type (required (named (codes "Int"))))
    (codes "kind") ≡ Some (enum_name (codes "LIST"))
kind_of_list p = refl

name_of_list : (p : Place)
    → resolve (the_schema p) made plain (list_type (required (named (codes "Int"))))
    (codes "name") ≡ Some null
name_of_list p = refl

of_type_of_list : (p : Place)
    → resolve (the_schema p) made plain (list_type (required (named (codes "Int"))))
    (codes "ofType") ≡ Some (node (non_null_type (named (codes "Int"))))
of_type_of_list p = refl

-- the default reason, and `null` as the reason
reason_of_old : (p : Place)
    → resolve (the_schema p) made plain (field (old_field p)) (codes "deprecationReason")
    ≡ Some (text (codes "No longer supported"))
reason_of_old p = refl

reason_of_null : (p : Place) → deprecation_reason (deprecated_by_null p ∷ []) ≡ None
reason_of_null p = null_is_none p

-- an input value of type Int: an argument or an input field
abbrev int_input : Place → List ℕ → List Directive → InputValueDefinition
int_input p n directives = record {
  description = None;
  name = name p n;
  of_type = t.Named (name p (codes "Int"));
  default = None;
  directives = directives;
}

-- the input value `new: Int`
abbrev new_input : Place → InputValueDefinition
new_input p = int_input p (codes "new") []

-- the input value `old: Int @deprecated`
abbrev old_input : Place → InputValueDefinition
old_input p = int_input p (codes "old") (deprecated p ∷ [])

-- the input values `old: Int @deprecated, new: Int`
abbrev inputs : Place → List InputValueDefinition
inputs p = old_input p ∷ new_input p ∷ []

-- the field `size(old: Int @deprecated, new: Int): Int`
abbrev size_field : Place → FieldDefinition
size_field p = record {
  description = None;
  name = name p (codes "size");
  arguments = inputs p;
  of_type = t.Named (name p (codes "Int"));
  directives = [];
}

-- `directive @sized(old: Int @deprecated, new: Int)`, with no locations
abbrev sized : Place → DirectiveDefinition
sized p = record {
  place = p;
  description = None;
  name = name p (codes "sized");
  arguments = inputs p;
  is_repeatable = false;
  locations = [];
}

-- the type `input Size { old: Int @deprecated new: Int }`
abbrev size : Place → SchemaType
size p = record {
  definition = record {
    file = None;
    node = record {
      place = p;
      description = None;
      name = name p (codes "Size");
      directives = [];
      parts = parts.InputObject (inputs p);
    };
  };
  extensions = [];
  kind = kind.InputObject;
  interfaces = [];
  fields = [];
  members = [];
  values = [];
  input_fields = record { file = None; node = old_input p }
      ∷ record { file = None; node = new_input p }
      ∷ [];
}

-- the argument `includeDeprecated: true`
abbrev with_deprecated : Given
with_deprecated = record { name = None; include_deprecated = Some true }

-- `args` of a field, and `args(includeDeprecated: true)`
args_of_size : (p : Place)
    → resolve (the_schema p) made plain (field (size_field p)) (codes "args")
    ≡ Some (nodes (input_value (new_input p) ∷ []))
args_of_size p = refl

all_args_of_size : (p : Place)
    → resolve (the_schema p) made with_deprecated (field (size_field p)) (codes "args")
    ≡ Some (nodes (input_value (old_input p) ∷ input_value (new_input p) ∷ []))
all_args_of_size p = refl

-- `args` of a directive
args_of_sized : (p : Place)
    → resolve (the_schema p) made plain (directive (sized p)) (codes "args")
    ≡ Some (nodes (input_value (new_input p) ∷ []))
args_of_sized p = refl

all_args_of_sized : (p : Place)
    → resolve (the_schema p) made with_deprecated (directive (sized p)) (codes "args")
    ≡ Some (nodes (input_value (old_input p) ∷ input_value (new_input p) ∷ []))
all_args_of_sized p = refl

-- `inputFields` of an input object
input_fields_of_size : (p : Place)
    → resolve (the_schema p) made plain (named_type (size p)) (codes "inputFields")
    ≡ Some (nodes (input_value (new_input p) ∷ []))
input_fields_of_size p = refl

all_input_fields_of_size : (p : Place)
    → resolve (the_schema p) made with_deprecated (named_type (size p)) (codes "inputFields")
    ≡ Some (nodes (input_value (old_input p) ∷ input_value (new_input p) ∷ []))
all_input_fields_of_size p = refl

-- `isDeprecated` and `deprecationReason` of an input value
is_old_deprecated : (p : Place)
    → resolve (the_schema p) made plain (input_value (old_input p)) (codes "isDeprecated")
    ≡ Some (truth true)
is_old_deprecated p = refl

is_new_deprecated : (p : Place)
    → resolve (the_schema p) made plain (input_value (new_input p)) (codes "isDeprecated")
    ≡ Some (truth false)
is_new_deprecated p = refl

reason_of_old_input : (p : Place)
    → resolve (the_schema p) made plain (input_value (old_input p)) (codes "deprecationReason")
    ≡ Some (text (codes "No longer supported"))
reason_of_old_input p = refl

reason_of_new_input : (p : Place)
    → resolve (the_schema p) made plain (input_value (new_input p)) (codes "deprecationReason")
    ≡ Some null
reason_of_new_input p = refl
