-- The types of the values that applied directives give (GraphQL 2.12, 3.13): those of the arguments
-- that their definitions have.
use Rattle.std.specs.Prelude.{ℕ, List, [], ◌∷◌, Bool, true, false, Option, Some, None, flat_map}
use Rattle.std.specs.Option.{option_map_or}
use Rattle.gql_ast.specs.declared.literal.Argument.{Argument}
use Rattle.gql_ast.specs.declared.type_system.DirectiveDefinition.{DirectiveDefinition}
use Rattle.gql_ast.specs.declared.type_system.InputValueDefinition.{InputValueDefinition}
use Rattle.gql_built_in.specs.declared.sited.Sited.{Sited}
use Rattle.gql_inputs.specs.InputTypes.{name_in}
use Rattle.gql_inputs.specs.Lookups.{InputForm, scalar, enumeration, input_object, in_schema}
use Rattle.gql_types.specs.Schemas.{directive_named}
use Rattle.gql_types.specs.Written.{written}
use Rattle.gql_types.specs.declared.schema.Schema.{Schema}
use Rattle.gql_node_rules.specs.Applied.{Application, applied, name_of}
use Rattle.gql_node_rules.specs.Nodes.{AllNodes}
use Rattle.gql_node_rules.specs.S33BadArgumentValues.{argument_named}

-- the name of the type of a given argument, if the definition has it
abbrev pub type_of_given : List InputValueDefinition → Argument → List (List ℕ)
type_of_given arguments a = option_map_or
    (λ (v : InputValueDefinition). name_in (written v.of_type) ∷ [])
    (argument_named arguments a.name.text) []

-- those of an applied directive with this definition, if it is known
abbrev pub types_by : Option (Sited DirectiveDefinition) → Application → List (List ℕ)
types_by known a = option_map_or (λ (d : Sited DirectiveDefinition).
    flat_map (type_of_given d.node.arguments) a.directive.arguments) known []

-- those of an applied directive
abbrev pub types_of_applied : Schema → Application → List (List ℕ)
types_of_applied s a = types_by (directive_named s (name_of a)) a

-- those of all applied directives
abbrev pub value_types : AllNodes → Schema → List (List ℕ)
value_types n s = flat_map (types_of_applied s) (applied n)

-- whether an input type is an input object (3.10)
abbrev pub is_object_form : Option InputForm → Bool
is_object_form None = false
is_object_form (Some (scalar s)) = false
is_object_form (Some (enumeration values)) = false
is_object_form (Some (input_object fields)) = true

-- whether the type of this name is an input object
abbrev pub is_input_object : Schema → List ℕ → Bool
is_input_object s name = is_object_form (in_schema s name)
