use Rattle.std.proofs.Common.{[], arith, sym}
use Rattle.gql_node_rules.specs.Resolved.{Resolution, resolution}
use Rattle.gql_node_rules.specs.ValueTypes.{types_by}
use Rattle.gql_node_rules.proofs.Same.{flat_map_step}
use Rattle.gql_node_rules.proofs.directive_use.value_types.Goals as goal

pub loop-resolved-preserved : goal.loop-resolved-preserved
loop-resolved-preserved c = flat_map_step (λ (r : Resolution). types_by r.known r.application)
    resolution c.args.all.now c.loop-resolved.resolved-index c.resolved-item.result [] _ _ (omega arith) (sym c.resolved-item.is)
    c.loop-resolved.invariant c.in_ok-add_types.ensures
