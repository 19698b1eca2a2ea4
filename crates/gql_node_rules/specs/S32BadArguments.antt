-- S32, Bad Arguments: an argument of an applied directive is undefined, repeated or missing
-- (GraphQL 5.4.1, 5.4.2, 5.4.2.1).
-- Reported at the argument's name, or `@` if missing, about the argument.
use Rattle.std.specs.Prelude.{ℕ, List, [], ◌++◌, Bool, Option, bytes_eq, map, filter, flat_map, if◌then◌else◌}
use Rattle.std.specs.List.{list_any}
use Rattle.gql_ast.specs.declared.fault.Fault.{Fault}
use Rattle.gql_ast.specs.declared.literal.Argument.{Argument}
use Rattle.gql_ast.specs.declared.rule.Rule.TheVariants as rule
use Rattle.gql_ast.specs.declared.text.Name.{Name}
use Rattle.gql_ast.specs.declared.type_system.DirectiveDefinition.{DirectiveDefinition}
use Rattle.gql_ast.specs.declared.type_system.InputValueDefinition.{InputValueDefinition}
use Rattle.gql_built_in.specs.declared.sited.Sited.{Sited}
use Rattle.gql_faults.specs.Faults.{fault_at, fault_of, where_known}
use Rattle.gql_faults.specs.Names.{repeated_faults}
use Rattle.gql_faults.specs.TypeNames.{is_required}
use Rattle.gql_types.specs.Parts.{sited}
use Rattle.gql_types.specs.Schemas.{directive_named}
use Rattle.gql_types.specs.declared.schema.Schema.{Schema}
use Rattle.gql_node_rules.specs.Applied.{Application, applied, name_of, place_of}
use Rattle.gql_node_rules.specs.Nodes.{AllNodes}

-- the names of arguments
abbrev pub names_of : List Argument → List Name
names_of arguments = map (λ (a : Argument). a.name) arguments

-- the names of the arguments that an applied directive gives
abbrev pub given : Application → List (Sited Name)
given a = sited a.file (names_of a.directive.arguments)

-- whether an argument of this name is defined
abbrev pub is_defined : List InputValueDefinition → List ℕ → Bool
is_defined arguments name = list_any
    (λ (v : InputValueDefinition). bytes_eq name v.name.text) arguments

-- whether an argument of this name is given
abbrev pub is_given : Application → List ℕ → Bool
is_given a name = list_any (λ (n : Sited Name). bytes_eq name n.node.text) (given a)

-- the fault of a given argument that is not defined
abbrev pub fault_of_given : List InputValueDefinition → Sited Name → List Fault
fault_of_given arguments n = if is_defined arguments n.node.text then [] else fault_of rule.S32 n

-- the faults of the given arguments that the definition of the directive does not have, if it is
-- known
abbrev pub undefined : Option (Sited DirectiveDefinition) → Application → List Fault
undefined known a = where_known known
    (λ (d : Sited DirectiveDefinition). flat_map (fault_of_given d.node.arguments) (given a))

-- the faults of the arguments that are given more than once, at each of them
abbrev pub twice : Application → List Fault
twice a = repeated_faults rule.S32 (given a)

-- the fault of a required argument that is not given
abbrev pub fault_of_required : Application → InputValueDefinition → List Fault
fault_of_required a v = if is_given a v.name.text then []
    else fault_at rule.S32 v.name.text (place_of a)

-- the faults of the required arguments that are not given, if the definition of the directive is
-- known
abbrev pub missing : Option (Sited DirectiveDefinition) → Application → List Fault
missing known a = where_known known
    (λ (d : Sited DirectiveDefinition). flat_map (fault_of_required a)
    (filter is_required d.node.arguments))

-- the faults of an applied directive with this definition, if it is known
abbrev pub faults_by : Option (Sited DirectiveDefinition) → Application → List Fault
faults_by known a = undefined known a ++ (twice a ++ missing known a)

-- the faults of an applied directive
abbrev pub faults_of_applied : Schema → Application → List Fault
faults_of_applied s a = faults_by (directive_named s (name_of a)) a

-- the faults by S32
abbrev pub faults : AllNodes → Schema → List Fault
faults n s = flat_map (faults_of_applied s) (applied n)
