-- Covariance: whether a field of one type may implement a field of another (GraphQL specification,
-- 3.6, IsValidImplementationFieldType). `Some(false)`: it may not. `None`: it depends on a name
-- that no type has.
use Rattle.std.specs.Prelude.{ℕ, List, ◌&&◌, Bool, true, false, Option, Some, bytes_eq, option_map, option_and_then, if◌then◌else◌}
use Rattle.std.specs.List.{list_any}
use Rattle.gql_ast.specs.declared.text.Name.{Name}
use Rattle.gql_types.specs.Schemas.{type_named}
use Rattle.gql_types.specs.Written.{Written, named, listed, required}
use Rattle.gql_types.specs.declared.kind.TypeKind.{TypeKind}
use Rattle.gql_types.specs.declared.kind.TypeKind.TheVariants as kind
use Rattle.gql_types.specs.declared.schema.Schema.{Schema}
use Rattle.gql_types.specs.declared.schema_type.SchemaType.{SchemaType}
use Rattle.gql_built_in.specs.declared.sited.Sited.{Sited}

-- whether the name is among these
abbrev pub is_among : List ℕ → List (Sited Name) → Bool
is_among name names = list_any (λ (n : Sited Name). bytes_eq name n.node.text) names

-- whether a kind is that of objects
abbrev pub is_object : TypeKind → Bool
is_object kind.Object = true
is_object kind.Scalar = false
is_object kind.Interface = false
is_object kind.Union = false
is_object kind.Enum = false
is_object kind.InputObject = false

-- whether t is an object or an interface that declares the interface base, or an object that is a
-- member of the union base
abbrev pub stands_by : TypeKind → SchemaType → SchemaType → Bool
stands_by kind.Interface t base = is_among base.definition.node.name.text t.interfaces
stands_by kind.Union t base = is_object t.kind && is_among t.definition.node.name.text base.members
stands_by kind.Scalar t base = false
stands_by kind.Object t base = false
stands_by kind.Enum t base = false
stands_by kind.InputObject t base = false

-- whether the type of the first name is the type of the second, declares it or is a member of it
abbrev pub stands_for : Schema → List ℕ → List ℕ → Option Bool
stands_for s name base = if bytes_eq name base then Some true
    else option_and_then
    (λ (t : SchemaType). option_map (λ (b : SchemaType). stands_by b.kind t b) (type_named s base))
    (type_named s name)

-- a type without its outermost `!`
abbrev pub nullable : Written → Written
nullable (required t) = t
nullable (listed t) = listed t
nullable (named n) = named n

-- whether the first type is covariant with the second: Non-Null types with nullable ones too, lists
-- by their items
abbrev pub covariant : Schema → Written → Written → Option Bool
covariant s (required t) base = covariant s t (nullable base)
covariant s (listed t) (listed base) = covariant s t base
covariant s (listed t) (required base) = Some false
covariant s (listed t) (named n) = Some false
covariant s (named n) (named base) = stands_for s n base
covariant s (named n) (required base) = Some false
covariant s (named n) (listed base) = Some false
