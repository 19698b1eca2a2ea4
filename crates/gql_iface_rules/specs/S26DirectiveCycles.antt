-- S26, Directive Cycles: the definition of a directive refers to the directive itself (GraphQL
-- 3.13).
-- Reported at the name in the first definition, about the name.
use Rattle.std.specs.Prelude.{ℕ, List, [], ◌∷◌, ◌++◌, Option, Some, None, Contains, map, flat_map, codes, nat_eq, if◌then◌else◌}
use Rattle.gql_ast.specs.declared.fault.Fault.{Fault}
use Rattle.gql_ast.specs.declared.literal.Directive.{Directive}
use Rattle.gql_ast.specs.declared.rule.Rule.TheVariants.{S26}
use Rattle.gql_ast.specs.declared.type_system.DirectiveDefinition.{DirectiveDefinition}
use Rattle.gql_ast.specs.declared.type_system.EnumValueDefinition.{EnumValueDefinition}
use Rattle.gql_ast.specs.declared.type_system.FieldDefinition.{FieldDefinition}
use Rattle.gql_ast.specs.declared.type_system.InputValueDefinition.{InputValueDefinition}
use Rattle.gql_ast.specs.declared.type_system.TypeExtension.{TypeExtension}
use Rattle.gql_built_in.specs.declared.sited.Sited.{Sited}
use Rattle.gql_cycles.specs.Names.{Steps, Leads}
use Rattle.gql_faults.specs.Directives.{first_directives}
use Rattle.gql_faults.specs.Faults.{fault_of, own_name_of, where_known}
use Rattle.gql_faults.specs.TypeNames.{name_in}
use Rattle.gql_types.specs.Possible.{name_of}
use Rattle.gql_types.specs.Schemas.{directive_named}
use Rattle.gql_types.specs.declared.schema.Schema.{Schema}
use Rattle.gql_types.specs.declared.schema_type.SchemaType.{SchemaType}

-- a directive's name with `@` before it, so that it is not the name of a type
abbrev pub at_sign : List ℕ → List ℕ
at_sign name = codes "@" ++ name

-- the names of the directives that are applied to a node, with `@`
abbrev pub applied : List Directive → List (List ℕ)
applied directives = map (λ (d : Directive). at_sign d.name.text) directives

-- an argument of a directive or an input field leads to the directives on it and to its type
abbrev pub from_input : InputValueDefinition → List (List ℕ)
from_input v = applied v.directives ++ (name_in v.of_type).text ∷ []

-- the directives on the arguments of a field
abbrev pub on_arguments : List InputValueDefinition → List (List ℕ)
on_arguments arguments = flat_map (λ (a : InputValueDefinition). applied a.directives) arguments

-- a field leads to the directives on it and on its arguments
abbrev pub from_field : FieldDefinition → List (List ℕ)
from_field f = applied f.directives ++ on_arguments f.arguments

-- the names to which fields lead
abbrev pub from_fields : List (Sited FieldDefinition) → List (List ℕ)
from_fields fields = flat_map (λ (f : Sited FieldDefinition). from_field f.node) fields

-- the directives on enum values
abbrev pub on_values : List (Sited EnumValueDefinition) → List (List ℕ)
on_values values = flat_map (λ (v : Sited EnumValueDefinition). applied v.node.directives) values

-- the names to which input fields lead
abbrev pub from_input_fields : List (Sited InputValueDefinition) → List (List ℕ)
from_input_fields fields = flat_map (λ (f : Sited InputValueDefinition). from_input f.node) fields

-- the directives on the extensions of a type
abbrev pub on_extensions : List (Sited TypeExtension) → List (List ℕ)
on_extensions extensions =
    flat_map (λ (e : Sited TypeExtension). applied e.node.directives) extensions

-- a type leads to the directives on its definition and its extensions, and to the names to which
-- its parts lead
abbrev pub from_type : SchemaType → List (List ℕ)
from_type t = applied t.definition.node.directives ++ on_extensions t.extensions
    ++ from_fields t.fields ++ on_values t.values ++ from_input_fields t.input_fields

-- the row of a type
abbrev pub type_row : SchemaType → Steps
type_row t = record { name = name_of t; leads = from_type t }

-- the row of a directive: it leads to the names to which its arguments lead
abbrev pub directive_row : Sited DirectiveDefinition → Steps
directive_row d =
    record { name = at_sign d.node.name.text; leads = flat_map from_input d.node.arguments }

-- the rows of all types and directives
abbrev pub definition_rows : Schema → List Steps
definition_rows s = map type_row s.types ++ map directive_row (first_directives s.directives)

-- the fault at the first definition of the directive of this name
abbrev pub fault_at_directive : Schema → List ℕ → List Fault
fault_at_directive s name = where_known (directive_named s name) (λ (d : Sited DirectiveDefinition).
    fault_of S26 (own_name_of (λ (x : DirectiveDefinition). x.name) d))

-- a directive's name without `@`
abbrev pub without_sign : List ℕ → Option (List ℕ)
without_sign [] = None
without_sign (c ∷ name) = if nat_eq c 64 then Some name else None

-- the fault at the first definition of the directive of a name with `@`
abbrev pub fault_at_name : Schema → List ℕ → List Fault
fault_at_name s name = where_known (without_sign name) (fault_at_directive s)

-- a fault by S26: a directive of some name leads back to itself
abbrev pub IsFault : Schema → Fault → Type 0
IsFault s f = (name : List ℕ) × Leads (definition_rows s) (at_sign name) (at_sign name)
    × Contains (fault_at_directive s name) f
