-- The faults of a definition by the rules on the merging of fields (GraphQL 5.3.2). A pair may have
-- a fault by both. A definition of the type system has none, as it has no selection sets.
use Rattle.gql_ast.specs.declared.definition.Definition.{Definition}
use Rattle.gql_ast.specs.declared.fault.Fault.{Fault}
use Rattle.gql_facts.specs.Worlds.{Facts}
use Rattle.gql_merge.specs.V05DifferentCalls as v05
use Rattle.gql_merge.specs.V06DifferentShapes as v06

-- the faults of a definition by V05 and V06
pub data IsMergeFault (facts : Facts) (d : Definition) : Fault → Type 0 where
  by_v05 : {f : Fault} → v05.IsFault facts d f → IsMergeFault facts d f
  by_v06 : {f : Fault} → v06.IsFault facts d f → IsMergeFault facts d f
