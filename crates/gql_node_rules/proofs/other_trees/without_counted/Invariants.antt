use Rattle.std.proofs.Common.{◌≡◌, ◌+◌}
use Rattle.gql_node_rules.specs.FileDefinitions.{types_counted}
use Rattle.gql_node_rules.proofs.other_trees.without_counted.Given as goal

abbrev pub invariant-loop-name : goal.invariant-loop-name
invariant-loop-name l = l.left + types_counted l.checks ≡ l.count + types_counted l._name-iterator
