use Rattle.std.proofs.Common.{rules}
use Rattle.gql_collect.specs.BorrowedGroups.{groups_in}
use Rattle.gql_collect.proofs.Grouping.{groups_step}
use Rattle.gql_collect.proofs.group.grouped.Goals as goal

pub loop-node-preserved : goal.loop-node-preserved
loop-node-preserved c = groups_step c.as_slice-node-items.result.now c.loop-node.node-index c.node-item.result
    (groups_in c.loop-node.groups.entries) (groups_in c.add_field.new.groups.entries)
    (search rules) (search rules) c.loop-node.invariant (search rules)
