-- Kinds of types and of operations: comparison, and what types of a kind are for.
use Rattle.std.specs.Prelude.{Bool, true, false}
use denote.Enum.Bare.{sameb}
use Rattle.gql_ast.specs.declared.executable.OperationKind.{OperationKind}
use Rattle.gql_ast.specs.contracts.executable.OperationKind as operation
use Rattle.gql_types.specs.declared.kind.TypeKind.{TypeKind}
use Rattle.gql_types.specs.declared.kind.TypeKind.TheVariants as kind
use Rattle.gql_types.specs.contracts.kind.TypeKind as of_type

-- whether two kinds of types are the same
unfoldable pub same_kind : TypeKind → TypeKind → Bool
same_kind = sameb of_type.the_type

-- whether two kinds of operations are the same
unfoldable pub same_operation : OperationKind → OperationKind → Bool
same_operation = sameb operation.the_type

-- ---- what types of a kind are for (GraphQL 3.4.2, 3.4)

-- whether a kind is one of input types, which arguments, input fields and variables have
abbrev pub is_input : TypeKind → Bool
is_input kind.Scalar = true
is_input kind.Enum = true
is_input kind.InputObject = true
is_input kind.Object = false
is_input kind.Interface = false
is_input kind.Union = false

-- whether a kind is one of output types, which fields have
abbrev pub is_output : TypeKind → Bool
is_output kind.Scalar = true
is_output kind.Object = true
is_output kind.Interface = true
is_output kind.Union = true
is_output kind.Enum = true
is_output kind.InputObject = false

-- whether a kind is composite: a selection set selects from such a type
abbrev pub is_composite : TypeKind → Bool
is_composite kind.Object = true
is_composite kind.Interface = true
is_composite kind.Union = true
is_composite kind.Scalar = false
is_composite kind.Enum = false
is_composite kind.InputObject = false

-- whether a kind is abstract: the possible types of such a type are other types
abbrev pub is_abstract : TypeKind → Bool
is_abstract kind.Interface = true
is_abstract kind.Union = true
is_abstract kind.Object = false
is_abstract kind.Scalar = false
is_abstract kind.Enum = false
is_abstract kind.InputObject = false

-- whether a kind is a leaf: nothing is selected from such a type
abbrev pub is_leaf : TypeKind → Bool
is_leaf kind.Scalar = true
is_leaf kind.Enum = true
is_leaf kind.Object = false
is_leaf kind.Interface = false
is_leaf kind.Union = false
is_leaf kind.InputObject = false
