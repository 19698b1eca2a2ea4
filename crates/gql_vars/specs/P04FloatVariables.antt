-- P04, Float Variables: a variable is of type Float, and no type of the schema has that name (this
-- registry's own rule).
-- Reported at the type's name, about `Float`.
use Rattle.std.specs.Prelude.{ℕ, List, [], ◌∷◌, Bool, codes, bytes_eq, is_some, Option, if◌then◌else◌}
use Rattle.gql_ast.specs.declared.executable.VariableDefinition.{VariableDefinition}
use Rattle.gql_ast.specs.declared.fault.Fault.{Fault}
use Rattle.gql_ast.specs.declared.fault.FilePlace.{FilePlace}
use Rattle.gql_ast.specs.declared.rule.Rule.TheVariants as rule
use Rattle.gql_ast.specs.declared.text.Name.{Name}
use Rattle.gql_types.specs.declared.kind.TypeKind.{TypeKind}
use Rattle.gql_facts.specs.Worlds.{Facts}
use Rattle.gql_rules.specs.Answers.{kind_of}
use Rattle.gql_rules.specs.Faults.{fault_of}
use Rattle.gql_vars.specs.Variables.{type_name}

-- whether a name is `Float`
abbrev pub is_float : List ℕ → Bool
is_float name = bytes_eq name (codes "Float")

-- the fault of a variable whose type has this name, by the kind of the type, if that is known
abbrev pub faults_by : FilePlace → Name → Option TypeKind → List Fault
faults_by owner name k = if is_some k then []
    else (if is_float name.text then fault_of owner rule.P04 name ∷ [] else [])

-- the fault of a variable
abbrev pub faults : Facts → FilePlace → VariableDefinition → List Fault
faults facts owner v = faults_by owner (type_name v) (kind_of facts (type_name v).text)
