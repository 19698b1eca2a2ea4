use Rattle.std.proofs.Common.{rules}
use Rattle.gql_collect.specs.Borrowed.{node_of}
use Rattle.gql_collect.proofs.GroupSteps.{below_step}
use Rattle.gql_collect.proofs.group.Group.selection_sets.Goals as goal

pub loop-other-preserved : goal.loop-other-preserved
loop-other-preserved c = below_step (node_of c.args.self.now.first) c.as_slice-other-items.result.now
    c.loop-other.other-index c.other-item.result c.loop-other.sets.items c.add_other.new.sets.items
    (search rules) (search rules) c.loop-other.invariant (search rules)
