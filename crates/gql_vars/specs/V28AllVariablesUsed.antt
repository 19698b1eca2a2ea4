-- V28, All Variables Used: neither the operation nor its fragments use a variable (GraphQL 5.8.4).
-- The fragments are those that the operation reaches. Of variables of one name, the first counts.
-- Reported at the `$` of the definition, about the variable.
use Rattle.std.specs.Prelude.{◌≡◌, ℕ, List, Some}
use Rattle.gql_ast.specs.declared.definition.Definition.{Definition}
use Rattle.gql_ast.specs.declared.executable.Operation.{Operation}
use Rattle.gql_ast.specs.declared.executable.VariableDefinition.{VariableDefinition}
use Rattle.gql_ast.specs.declared.fault.Fault.{Fault}
use Rattle.gql_ast.specs.declared.rule.Rule.TheVariants as rule
use Rattle.gql_facts.specs.Worlds.{Facts}
use Rattle.gql_rules.specs.Faults.{fault_at}
use Rattle.gql_rules.specs.LocalFaults.{owner_of}
use Rattle.gql_vars.specs.Uses.{Use, Uses}
use Rattle.gql_vars.specs.Variables.{variable_named}

-- no use has this name
abbrev pub IsUnused : Facts → Definition → List ℕ → Type 0
IsUnused facts d name = (x : Use) → Uses facts d x → x.name ≡ name → ⊥

-- the faults of an operation, which is the definition d
pub data IsFault (facts : Facts) (d : Definition) (o : Operation) : Fault → Type 0 where
  unused : {v : VariableDefinition} → variable_named o.variables v.name.text ≡ Some v
      → IsUnused facts d v.name.text
      → IsFault facts d o (fault_at (owner_of d) rule.V28 v.name.text v.place)
