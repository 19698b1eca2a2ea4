-- V27, All Variable Uses Defined: an operation does not define a variable that it uses (GraphQL
-- 5.8.3).
-- Reported at the `$` of the use, about the variable, in each operation that reaches the use.
use Rattle.std.specs.Prelude.{◌≡◌, None}
use Rattle.gql_ast.specs.declared.definition.Definition.{Definition}
use Rattle.gql_ast.specs.declared.executable.Operation.{Operation}
use Rattle.gql_ast.specs.declared.fault.Fault.{Fault}
use Rattle.gql_ast.specs.declared.rule.Rule.TheVariants as rule
use Rattle.gql_facts.specs.Worlds.{Facts}
use Rattle.gql_rules.specs.LocalFaults.{owner_of}
use Rattle.gql_vars.specs.Faults.{fault_of_use}
use Rattle.gql_vars.specs.Uses.{Use, Uses}
use Rattle.gql_vars.specs.Variables.{variable_named}

-- the faults of an operation, which is the definition d
pub data IsFault (facts : Facts) (d : Definition) (o : Operation) : Fault → Type 0 where
  undefined : {x : Use} → Uses facts d x → variable_named o.variables x.name ≡ None
      → IsFault facts d o (fault_of_use (owner_of d) rule.V27 x)
