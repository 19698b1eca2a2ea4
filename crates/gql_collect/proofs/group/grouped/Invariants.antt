use Rattle.std.proofs.Common.{◌≡◌, take}
use Rattle.gql_collect.specs.Borrowed.{nodes_of}
use Rattle.gql_collect.specs.BorrowedGroups.{groups_in}
use Rattle.gql_collect.specs.Groups.{groups_of}
use Rattle.gql_collect.proofs.group.grouped.Given as goal

abbrev pub invariant-loop-node : goal.invariant-loop-node
invariant-loop-node l = groups_in l.groups.entries ≡ groups_of (nodes_of (take l.node-index l.node-items))
