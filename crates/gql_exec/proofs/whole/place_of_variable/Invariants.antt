use Rattle.std.proofs.Common.{◌≡◌, find, bytes_eq, drop}
use Rattle.gql_ast.specs.declared.executable.VariableDefinition.{VariableDefinition}
use Rattle.gql_exec.proofs.whole.place_of_variable.Given as goal

abbrev pub invariant-loop-definition : goal.invariant-loop-definition
invariant-loop-definition l = find (λ (v : VariableDefinition). bytes_eq l.name v.name.text) l.definitions
    ≡ find (λ (v : VariableDefinition). bytes_eq l.name v.name.text) (drop l.definition-index l.definitions)
