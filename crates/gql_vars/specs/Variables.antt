-- The variables of an operation (GraphQL 2.10).
use Rattle.std.specs.Prelude.{ℕ, List, bytes_eq, find, Option}
use Rattle.gql_ast.specs.declared.executable.VariableDefinition.{VariableDefinition}
use Rattle.gql_ast.specs.declared.text.Name.{Name}
use Rattle.gql_faults.specs.TypeNames.{name_in}

-- the name of a variable
abbrev pub variable_name : VariableDefinition → List ℕ
variable_name v = v.name.text

-- the first variable of a name; others of the name do not count
abbrev pub variable_named : List VariableDefinition → List ℕ → Option VariableDefinition
variable_named variables name =
    find (λ (v : VariableDefinition). bytes_eq name (variable_name v)) variables

-- the name within the type of a variable
abbrev pub type_name : VariableDefinition → Name
type_name v = name_in v.of_type
