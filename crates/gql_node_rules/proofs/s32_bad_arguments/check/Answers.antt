use Rattle.std.proofs.Common.{arith, sym}
use Rattle.gql_node_rules.specs.Resolved.{Resolution, resolution}
use Rattle.gql_node_rules.specs.S32BadArguments.{faults_by}
use Rattle.gql_node_rules.proofs.Same.{flat_map_step}
use Rattle.gql_node_rules.proofs.s32_bad_arguments.check.Goals as goal

pub loop-resolved-preserved : goal.loop-resolved-preserved
loop-resolved-preserved c = flat_map_step (λ (r : Resolution). faults_by r.known r.application)
    resolution c.args.all.now c.loop-resolved.resolved-index c.resolved-item.result c.args.faults.now.items _ _ (omega arith) (sym c.resolved-item.is)
    c.loop-resolved.invariant c.in_ok-check_applied.ensures
