use Rattle.std.proofs.Common.{◌≡◌, ◌++◌, map}
use Rattle.gql_types.specs.Definitions.{of_files}
use Rattle.gql_node_rules.specs.Borrowed.{one}
use Rattle.gql_node_rules.proofs.trees.trees.Given as goal

abbrev pub invariant-loop-name : goal.invariant-loop-name
invariant-loop-name l = map one l.found.items ++ of_files l._name-iterator ≡ of_files l.files.schema
