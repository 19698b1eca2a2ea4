use Rattle.gql_found.proofs.Lists.{flat_next}
use Rattle.gql_found.specs.Findings.{operation_in}
use Rattle.gql_found.proofs.operations.operations_of.Goals as goal

pub loop-definition-preserved : goal.loop-definition-preserved
loop-definition-preserved c =
    flat_next (λ d. d.now) (operation_in c.args.sources.now) c.args.definitions.now c.loop-definition.definition-index c.definition-item.result c.loop-definition.operations.items c.add_operation.new.operations.items
    c.loop-definition-test.true c.definition-item.is c.loop-definition.invariant c.in_ok-add_operation.ensures
