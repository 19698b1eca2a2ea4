-- The faults of one definition (GraphQL 5): by the rules that check one definition, by those on the
-- variables of an operation, by those on the merging of fields, and by that on the root fields of a
-- subscription.
use Rattle.gql_ast.specs.declared.definition.Definition.{Definition}
use Rattle.gql_ast.specs.declared.fault.Fault.{Fault}
use Rattle.gql_facts.specs.Worlds.{Facts}
use Rattle.gql_merge.specs.MergeFaults.{IsMergeFault}
use Rattle.gql_rules.specs.LocalFaults.{IsFault}
use Rattle.gql_vars.specs.VariableFaults.{IsVariableFault}
use Rattle.gql_verdict.specs.V30SingleRootField.{IsRootFault}

-- the faults of a definition, where these are the facts
pub data IsFaultIn (facts : Facts) (d : Definition) : Fault → Type 0 where
  by_definition : {f : Fault} → IsFault facts d f → IsFaultIn facts d f
  by_variables : {f : Fault} → IsVariableFault facts d f → IsFaultIn facts d f
  by_merging : {f : Fault} → IsMergeFault facts d f → IsFaultIn facts d f
  by_root : {f : Fault} → IsRootFault facts d f → IsFaultIn facts d f
