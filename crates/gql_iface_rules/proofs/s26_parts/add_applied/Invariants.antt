use Rattle.std.proofs.Common.{◌≡◌, ◌++◌, take}
use Rattle.gql_iface_rules.specs.S26DirectiveCycles.{applied}
use Rattle.gql_iface_rules.proofs.s26_parts.add_applied.Given as goal

abbrev pub invariant-loop-directive : goal.invariant-loop-directive
invariant-loop-directive l = l.names ≡ l.initial.names ++ applied (take l.directive-index l.directives)
