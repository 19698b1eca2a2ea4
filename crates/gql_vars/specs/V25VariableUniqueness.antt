-- V25, Variable Uniqueness: an operation has two variables of the same name (GraphQL 5.8.1).
-- Reported at the `$` of each definition, about the variable.
use Rattle.std.specs.Prelude.{List, [], ◌∷◌, flat_map, if◌then◌else◌}
use Rattle.gql_ast.specs.declared.executable.VariableDefinition.{VariableDefinition}
use Rattle.gql_ast.specs.declared.fault.Fault.{Fault}
use Rattle.gql_ast.specs.declared.fault.FilePlace.{FilePlace}
use Rattle.gql_ast.specs.declared.rule.Rule.TheVariants as rule
use Rattle.gql_rules.specs.Faults.{fault_at}
use Rattle.gql_rules.specs.Parts.{is_repeated}
use Rattle.gql_vars.specs.Variables.{variable_name}

-- the fault of one of these variables
abbrev pub fault_of_variable : FilePlace → List VariableDefinition → VariableDefinition → List Fault
fault_of_variable owner variables v = if is_repeated variable_name variables v.name.text
    then fault_at owner rule.V25 v.name.text v.place ∷ []
    else []

-- the faults of the variables of an operation
abbrev pub faults : FilePlace → List VariableDefinition → List Fault
faults owner variables = flat_map (fault_of_variable owner variables) variables
