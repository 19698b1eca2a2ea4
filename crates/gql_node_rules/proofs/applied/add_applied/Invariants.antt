use Rattle.std.proofs.Common.{◌≡◌, ◌++◌, map, take}
use Rattle.std.specs.Option.{option_copied}
use Rattle.gql_node_rules.specs.Borrowed.{application}
use Rattle.gql_node_rules.proofs.applied.add_applied.Given as goal

abbrev pub invariant-loop-directive : goal.invariant-loop-directive
invariant-loop-directive l = map application l.found.items ≡ map application l.initial.found.items ++ map (λ d. record { location = l.node.location; file = option_copied l.node.file; directive = d }) (take l.directive-index l.directive-items)
