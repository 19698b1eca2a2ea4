use Rattle.gql_vars.proofs.OperationParts.{visited}
use Rattle.gql_vars.proofs.usage_nodes.check_operation.Goals as goal

pub returns-clause-found : goal.returns-clause-found
returns-clause-found g c =
    visited (g.W.World.facts c.args.world.now) c.args.check.now c.args.operation.now _ _
    c.as_slice.result.now c.in_ok-parent.parent c.as_slice-selected.result.now c.args.faults.now.items _ _
    c.in_ok-check_directives.ensures.facts c.in_ok-parent.ensures.facts
    c.as_slice.ensures c.in_ok-parent.ensures.parent c.as_slice-selected.ensures
    c.in_ok-check_directives.ensures.found c.in_ok-check_set.ensures.found
