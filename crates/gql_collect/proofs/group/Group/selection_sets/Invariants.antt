use Rattle.std.proofs.Common.{◌≡◌, ◌∷◌, take}
use Rattle.gql_collect.specs.Borrowed.{all_selections, node_of}
use Rattle.gql_collect.specs.BorrowedGroups.{others_of}
use Rattle.gql_collect.specs.Collection.{selections_below}
use Rattle.gql_collect.proofs.group.Group.selection_sets.Given as goal

abbrev pub invariant-loop-other : goal.invariant-loop-other
invariant-loop-other l = all_selections l.sets.items
    ≡ selections_below (node_of l.self.first ∷ others_of (take l.other-index l.other-items))
