-- V26, Variables Are Input Types: the type of a variable is unknown, or not an input type (GraphQL
-- 5.8.2). P04 reports Float where it is unknown.
-- Reported at the type's name, about the type.
use Rattle.std.specs.Prelude.{List, [], ◌∷◌, Bool, true, false, ◌||◌, Option, Some, if◌then◌else◌}
use Rattle.gql_ast.specs.declared.executable.VariableDefinition.{VariableDefinition}
use Rattle.gql_ast.specs.declared.fault.Fault.{Fault}
use Rattle.gql_ast.specs.declared.fault.FilePlace.{FilePlace}
use Rattle.gql_ast.specs.declared.rule.Rule.TheVariants as rule
use Rattle.gql_ast.specs.declared.text.Name.{Name}
use Rattle.gql_facts.specs.Worlds.{Facts}
use Rattle.gql_rules.specs.Answers.{kind_of}
use Rattle.gql_rules.specs.Faults.{fault_of}
use Rattle.gql_types.specs.declared.kind.TypeKind.{TypeKind}
use Rattle.gql_types.specs.declared.kind.TypeKind.TheVariants as kind
use Rattle.gql_vars.specs.P04FloatVariables.{is_float}
use Rattle.gql_vars.specs.Variables.{type_name}

-- scalars, enums and input objects are input types (3.4.2)
abbrev pub is_input : Option TypeKind → Bool
is_input (Some kind.Scalar) = true
is_input (Some kind.Enum) = true
is_input (Some kind.InputObject) = true
is_input _ = false

-- the fault of a variable whose type has this name, by the kind of the type
abbrev pub faults_by : FilePlace → Name → Option TypeKind → List Fault
faults_by owner name k =
    if is_float name.text || is_input k then [] else fault_of owner rule.V26 name ∷ []

-- the fault of a variable
abbrev pub faults : Facts → FilePlace → VariableDefinition → List Fault
faults facts owner v = faults_by owner (type_name v) (kind_of facts (type_name v).text)
