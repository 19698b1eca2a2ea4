-- The faults of an operation by the rules on variables (GraphQL 5.8).
use Rattle.std.specs.Prelude.{◌≡◌, flat_map, Contains}
use Rattle.gql_ast.specs.declared.definition.Definition.{Definition}
use Rattle.gql_ast.specs.declared.definition.Tree.TheVariants as tree
use Rattle.gql_ast.specs.declared.executable.Operation.{Operation}
use Rattle.gql_ast.specs.declared.fault.Fault.{Fault}
use Rattle.gql_facts.specs.Worlds.{Facts}
use Rattle.gql_rules.specs.LocalFaults.{owner_of}
use Rattle.gql_vars.specs.P04FloatVariables as p04
use Rattle.gql_vars.specs.V25VariableUniqueness as v25
use Rattle.gql_vars.specs.V26VariablesAreInputTypes as v26
use Rattle.gql_vars.specs.V27AllVariableUsesDefined as v27
use Rattle.gql_vars.specs.V28AllVariablesUsed as v28
use Rattle.gql_vars.specs.V29AllVariableUsagesAreAllowed as v29

-- the faults of an operation, which is the definition d
pub data IsFaultOf (facts : Facts) (d : Definition) (o : Operation) : Fault → Type 0 where
  by_v25 : {f : Fault} → Contains (v25.faults (owner_of d) o.variables) f → IsFaultOf facts d o f
  by_v26 : {f : Fault} → Contains (flat_map (v26.faults facts (owner_of d)) o.variables) f
      → IsFaultOf facts d o f
  by_v27 : {f : Fault} → v27.IsFault facts d o f → IsFaultOf facts d o f
  by_v28 : {f : Fault} → v28.IsFault facts d o f → IsFaultOf facts d o f
  by_v29 : {f : Fault} → v29.IsFault facts d o f → IsFaultOf facts d o f
  by_p04 : {f : Fault} → Contains (flat_map (p04.faults facts (owner_of d)) o.variables) f
      → IsFaultOf facts d o f

-- the faults of a definition: those of an operation; another definition has none
pub data IsVariableFault (facts : Facts) (d : Definition) : Fault → Type 0 where
  of_operation : {o : Operation} {f : Fault} → d.tree ≡ tree.Operation o → IsFaultOf facts d o f
      → IsVariableFault facts d f
