use Rattle.std.proofs.Common.{◌≡◌, ◌++◌, map}
use Rattle.gql_node_rules.specs.Borrowed.{one}
use Rattle.gql_node_rules.specs.FileDefinitions.{others_held}
use Rattle.gql_node_rules.proofs.other_trees.other_trees.Given as goal

abbrev pub invariant-loop-name : goal.invariant-loop-name
invariant-loop-name l = map one l.found.items ++ others_held l._name-iterator ≡ others_held l.checks
