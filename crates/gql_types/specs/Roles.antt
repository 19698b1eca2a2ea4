-- Helper definitions for private contracts: what part a type plays in possible types.
use Rattle.std.specs.Prelude.{◌≡◌, ℕ, List, [], ◌∷◌, Option, None, refl}
use Rattle.gql_ast.specs.declared.text.Name.{Name}
use Rattle.gql_built_in.specs.declared.sited.Sited.{Sited}
use Rattle.gql_types.specs.declared.kind.TypeKind.{TypeKind}
use Rattle.gql_types.specs.declared.kind.TypeKind.TheVariants as kind
use Rattle.gql_types.specs.declared.role.Role.{Role}
use Rattle.gql_types.specs.declared.role.Role.TheVariants.{Abstract, Declaring, Other}
use Rattle.gql_types.specs.declared.schema_type.SchemaType.{SchemaType}

-- the role of a type of this kind that declares these interfaces
abbrev pub role_by : TypeKind → List (Sited Name) → Role
role_by kind.Object [] = Other
role_by kind.Object (interface ∷ interfaces) = Declaring
role_by kind.Interface interfaces = Abstract
role_by kind.Union interfaces = Abstract
role_by kind.Scalar interfaces = Other
role_by kind.Enum interfaces = Other
role_by kind.InputObject interfaces = Other

-- the role of a type
abbrev pub role_of : SchemaType → Role
role_of t = role_by t.kind t.interfaces

-- this place of a type of this role; none for an interface or a union
abbrev pub concrete_place : Role → Option ℕ → Option ℕ
concrete_place Abstract stood = None
concrete_place Declaring stood = stood
concrete_place Other stood = stood

-- an object that declares an interface
example_declaring : (i : Sited Name) → role_by kind.Object (i ∷ []) ≡ Declaring
example_declaring i = refl

-- an object that declares none
example_other : role_by kind.Object [] ≡ Other
example_other = refl

-- an interface that declares another one
example_abstract : (i : Sited Name) → role_by kind.Interface (i ∷ []) ≡ Abstract
example_abstract i = refl
