-- Helper definitions for private contracts: the possible types of interfaces and unions alone.
use Rattle.std.specs.Prelude.{ℕ, List, [], filter, flat_map}
use Rattle.gql_types.specs.Kinds.{is_abstract}
use Rattle.gql_types.specs.Possible.{objects_of, possible_by}
use Rattle.gql_types.specs.declared.kind.TypeKind.{TypeKind}
use Rattle.gql_types.specs.declared.kind.TypeKind.TheVariants as kind
use Rattle.gql_types.specs.declared.possible.PossibleTypes.{PossibleTypes}
use Rattle.gql_types.specs.declared.schema_type.SchemaType.{SchemaType}

-- the possible types of a type, if it is an interface or a union
abbrev pub abstract_by : TypeKind → (List ℕ → List (List ℕ)) → SchemaType → List PossibleTypes
abstract_by kind.Interface declaring t = possible_by kind.Interface declaring t
abstract_by kind.Union declaring t = possible_by kind.Union declaring t
abstract_by kind.Object declaring t = []
abstract_by kind.Scalar declaring t = []
abstract_by kind.Enum declaring t = []
abstract_by kind.InputObject declaring t = []

-- those of these types that are interfaces or unions
abbrev pub abstract_types : List SchemaType → List SchemaType
abstract_types types = filter (λ (t : SchemaType). is_abstract t.kind) types

-- the possible types of all interfaces and unions
abbrev pub all_abstract : List SchemaType → List PossibleTypes
all_abstract types = flat_map (λ (t : SchemaType). abstract_by t.kind (objects_of types) t) types
