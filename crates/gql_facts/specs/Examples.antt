-- Worked examples of the definitions.
use Rattle.std.specs.Prelude.{◌≡◌, ℕ, List, [], ◌∷◌, codes, bytes_eq, refl, Some, None, if◌then◌else◌}
use Rattle.gql_text.specs.declared.place.Place.{Place}
use Rattle.gql_ast.specs.declared.definition.Definition.{Definition}
use Rattle.gql_ast.specs.declared.definition.Tree.TheVariants as tree
use Rattle.gql_ast.specs.declared.executable.Field.{Field}
use Rattle.gql_ast.specs.declared.executable.InlineFragment.{InlineFragment}
use Rattle.gql_ast.specs.declared.executable.OperationKind.TheVariants as operation
use Rattle.gql_ast.specs.declared.executable.Selection.TheVariants as s
use Rattle.gql_ast.specs.declared.executable.Spread.{Spread}
use Rattle.gql_ast.specs.declared.text.Name.{Name}
use Rattle.gql_ast.specs.declared.type_system.EnumValueDefinition.{EnumValueDefinition}
use Rattle.gql_ast.specs.declared.type_system.TypeParts.{TypeParts}
use Rattle.gql_ast.specs.declared.type_system.TypeParts.TheVariants as parts
use Rattle.gql_built_in.specs.declared.sited.Sited.{Sited}
use Rattle.gql_types.specs.Kinds.{same_operation}
use Rattle.gql_types.specs.declared.kind.TypeKind.{TypeKind}
use Rattle.gql_types.specs.declared.kind.TypeKind.TheVariants as kind
use Rattle.gql_types.specs.declared.schema.Schema.{Schema}
use Rattle.gql_types.specs.declared.schema_type.SchemaType.{SchemaType}
use Rattle.gql_facts.specs.declared.fact.Fact.TheVariants as fact
use Rattle.gql_facts.specs.declared.key.Key.TheVariants as key
use Rattle.gql_facts.specs.Facts.{fact_in, type_field, typename_field}
use Rattle.gql_facts.specs.Nodes.{nodes_in, nodes_field, nodes_inline, nodes_spread}
use Rattle.gql_facts.specs.OwnReads.{own_reads}
use Rattle.gql_facts.specs.Worlds.{Facts}

-- a name at a place
abbrev name : Place → List ℕ → Name
name p n = record { place = p; text = n }

-- ---- what an operation reads

-- a query root Query, where every field is of the object type User, except the scalar `id`
abbrev answers : Facts
answers (key.RootOf operation.Query) = fact.Root (codes "Query")
answers (key.KindOf t) = fact.Kind (if bytes_eq t (codes "ID") then kind.Scalar else kind.Object)
answers (key.FieldOf t n) = fact.Field (record {
  of_type = record {
    wrappers = [];
    name = if bytes_eq n (codes "id") then codes "ID" else codes "User";
  };
  arguments = [];
})
answers _ = fact.Absent

-- the field `id`
abbrev id_field : Place → Field
id_field p = record {
  alias = None;
  name = name p (codes "id");
  arguments = [];
  directives = [];
  selections = [];
}

-- `... on User { id }`
abbrev on_user : Place → InlineFragment
on_user p = record {
  place = p;
  condition = Some (name p (codes "User"));
  directives = [];
  selections = s.Field (id_field p) ∷ [];
}

-- `...Rest`
abbrev rest : Place → Spread
rest p = record { place = p; name = name p (codes "Rest"); directives = [] }

-- `me { ... on User { id } ...Rest }`
abbrev me_field : Place → Field
me_field p = record {
  alias = None;
  name = name p (codes "me");
  arguments = [];
  directives = [];
  selections = s.InlineFragment (on_user p) ∷ s.Spread (rest p) ∷ [];
}

-- `{ me { ... on User { id } ...Rest } }`
abbrev query : Place → Definition
query p = record {
  file = codes "find";
  tree = tree.Operation (record {
    place = p;
    kind = operation.Query;
    name = None;
    variables = [];
    directives = [];
    selections = s.Field (me_field p) ∷ [];
  });
}

-- it reads whether `Float` is a type, the root, each field with the type of what it selects, the condition, and the fragment;
-- a key may be read more than once
query_reads : (p : Place) → own_reads answers (query p) ≡
    key.KindOf (codes "Float")
    ∷ key.RootOf operation.Query ∷ key.KindOf (codes "Query") ∷ key.PossibleOf (codes "Query")
    ∷ key.FieldOf (codes "Query") (codes "me")
    ∷ key.KindOf (codes "User") ∷ key.PossibleOf (codes "User")
    ∷ key.KindOf (codes "User") ∷ key.PossibleOf (codes "User")
    ∷ key.FieldOf (codes "User") (codes "id")
    ∷ key.KindOf (codes "ID") ∷ key.PossibleOf (codes "ID")
    ∷ key.FragmentOf (codes "Rest") ∷ []
unfolding nodes_in
query_reads p = rw (
  nodes_field answers (me_field p) (Some (codes "Query")),
  nodes_inline answers (on_user p) (Some (codes "User")),
  nodes_field answers (id_field p) (Some (codes "User")),
  nodes_spread answers (rest p) (Some (codes "User")),
) refl

-- ---- the answers of a schema

-- a type of this kind with these values, and with no other parts
abbrev with_values : TypeKind → TypeParts → List (Sited EnumValueDefinition) → Place → List ℕ
    → SchemaType
with_values k its values p n = record {
  definition = record {
    file = None;
    node = record {
      place = p;
      description = None;
      name = name p n;
      directives = [];
      parts = its;
    };
  };
  extensions = [];
  kind = k;
  interfaces = [];
  fields = [];
  members = [];
  values = values;
  input_fields = [];
}

-- the enum value `OPEN`
abbrev open_value : Place → EnumValueDefinition
open_value p = record { description = None; name = name p (codes "OPEN"); directives = [] }

-- `scalar Date enum State { OPEN }`
abbrev schema : Place → Schema
schema p = record {
  types = with_values kind.Scalar parts.Scalar [] p (codes "Date")
      ∷ with_values kind.Enum (parts.Enum (open_value p ∷ []))
      (record { file = None; node = open_value p } ∷ []) p (codes "State")
      ∷ [];
  directives = [];
  roots = [];
  possible = [];
}

-- the kind of a type that is there
kind_of_state : (p : Place)
    → fact_in (schema p) [] (key.KindOf (codes "State")) ≡ fact.Kind kind.Enum
kind_of_state p = refl

-- no type has that name
no_such_type : (p : Place) → fact_in (schema p) [] (key.KindOf (codes "Color")) ≡ fact.Absent
no_such_type p = refl

-- the values of an enum
values_of_state : (p : Place)
    → fact_in (schema p) [] (key.EnumOf (codes "State")) ≡ fact.Enum (codes "OPEN" ∷ [])
values_of_state p = refl

-- a scalar has no enum values
values_of_date : (p : Place) → fact_in (schema p) [] (key.EnumOf (codes "Date")) ≡ fact.Absent
values_of_date p = refl

-- an enum is not composite, so it has no `__typename`
no_typename : (p : Place)
    → fact_in (schema p) [] (key.FieldOf (codes "State") (codes "__typename")) ≡ fact.Absent
no_typename p = refl

-- `type Query`, which is the query root, `type Other` and `union Both`
abbrev rooted : Place → Schema
rooted p = record {
  types = with_values kind.Object (parts.Object [] []) [] p (codes "Query")
      ∷ with_values kind.Object (parts.Object [] []) [] p (codes "Other")
      ∷ with_values kind.Union (parts.Union []) [] p (codes "Both")
      ∷ [];
  directives = [];
  roots = record {
    kind = operation.Query;
    entry = None;
    name = record { file = None; node = name p (codes "Query") };
  } ∷ [];
  possible = [];
}

-- a union has `__typename`
typename_of_union : (p : Place)
    → fact_in (rooted p) [] (key.FieldOf (codes "Both") (codes "__typename"))
    ≡ fact.Field typename_field
typename_of_union p = refl

-- the query root has `__type`, and another object does not
type_of_root : (p : Place)
    → fact_in (rooted p) [] (key.FieldOf (codes "Query") (codes "__type")) ≡ fact.Field type_field
unfolding same_operation
type_of_root p = refl

type_of_other : (p : Place)
    → fact_in (rooted p) [] (key.FieldOf (codes "Other") (codes "__type")) ≡ fact.Absent
unfolding same_operation
type_of_other p = refl

-- no document file has a fragment
no_fragment : (p : Place) → fact_in (schema p) [] (key.FragmentOf (codes "Rest")) ≡ fact.Absent
no_fragment p = refl
