-- S17, Input Object Cycles: an input object refers to itself through Non-Null fields (GraphQL
-- 3.10).
-- Reported at the name in the first definition, about the name.
use Rattle.std.specs.Prelude.{ℕ, List, [], ◌∷◌, Option, Some, None, Contains, flat_map}
use Rattle.std.specs.Option.{option_map_or}
use Rattle.gql_ast.specs.declared.fault.Fault.{Fault}
use Rattle.gql_ast.specs.declared.rule.Rule.TheVariants.{S17}
use Rattle.gql_ast.specs.declared.type_system.InputValueDefinition.{InputValueDefinition}
use Rattle.gql_ast.specs.declared.type_system.TypeDefinition.{TypeDefinition}
use Rattle.gql_built_in.specs.declared.sited.Sited.{Sited}
use Rattle.gql_cycles.specs.Names.{Steps, Leads}
use Rattle.gql_faults.specs.Faults.{fault_of, own_name_of, where_known}
use Rattle.gql_types.specs.Possible.{name_of}
use Rattle.gql_types.specs.Schemas.{type_named}
use Rattle.gql_types.specs.Written.{Written, named, listed, required, written}
use Rattle.gql_types.specs.declared.kind.TypeKind.{TypeKind}
use Rattle.gql_types.specs.declared.kind.TypeKind.TheVariants as kind
use Rattle.gql_types.specs.declared.schema.Schema.{Schema}
use Rattle.gql_types.specs.declared.schema_type.SchemaType.{SchemaType}

-- the name that a type is, unless it is a list or Non-Null
abbrev pub name_itself : Written → Option (List ℕ)
name_itself (named n) = Some n
name_itself (listed t) = None
name_itself (required t) = None

-- the name that a field of this type needs: X for the type `X!`
abbrev pub needed_name : Written → Option (List ℕ)
needed_name (required t) = name_itself t
needed_name (named n) = None
needed_name (listed t) = None

-- the name of the type that a field needs, as a list
abbrev pub needed_by : Sited InputValueDefinition → List (List ℕ)
needed_by f = option_map_or (λ n. n ∷ []) (needed_name (written f.node.of_type)) []

-- the names of the types that these fields need
abbrev pub needs : List (Sited InputValueDefinition) → List (List ℕ)
needs fields = flat_map needed_by fields

-- an input object and the names that it needs; no other type has a row
abbrev pub input_row : TypeKind → SchemaType → List Steps
input_row kind.InputObject t = record { name = name_of t; leads = needs t.input_fields } ∷ []
input_row kind.Scalar t = []
input_row kind.Object t = []
input_row kind.Interface t = []
input_row kind.Union t = []
input_row kind.Enum t = []

-- the rows of all input objects
abbrev pub input_rows : Schema → List Steps
input_rows s = flat_map (λ (t : SchemaType). input_row t.kind t) s.types

-- the fault at the first definition of the type of this name
abbrev pub fault_at_type : Schema → List ℕ → List Fault
fault_at_type s name = where_known (type_named s name) (λ (t : SchemaType).
    fault_of S17 (own_name_of (λ (d : TypeDefinition). d.name) t.definition))

-- a fault by S17: an input object of some name leads back to itself
abbrev pub IsFault : Schema → Fault → Type 0
IsFault s f = (name : List ℕ) × Leads (input_rows s) name name × Contains (fault_at_type s name) f
