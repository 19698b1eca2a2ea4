use Rattle.std.proofs.Common.{rules}
use Rattle.gql_node_rules.proofs.Changes.{inputs_step}
use Rattle.gql_node_rules.proofs.schema_change.other_inputs.Goals as goal

pub loop-name-preserved : goal.loop-name-preserved
loop-name-preserved c = inputs_step c.args.before.now c.args.after.now c.args.names.now c.loop-name.name-index c.name-item.result c.loop-name.found.items c.add_if_other_input.new.found.items
    (search rules) (search rules) c.loop-name.invariant c.in_ok-add_if_other_input.ensures.keeps c.in_ok-add_if_other_input.ensures.named
