use Rattle.std.proofs.Common.{◌≡◌, ◌++◌, map, take}
use Rattle.gql_iface_rules.specs.Borrowed.{steps}
use Rattle.gql_iface_rules.specs.S26DirectiveCycles.{directive_row}
use Rattle.gql_iface_rules.proofs.s26_rows.add_directive_rows.Given as goal

abbrev pub invariant-loop-directive : goal.invariant-loop-directive
invariant-loop-directive l = map steps l.rows.items ≡ map steps l.initial.rows.items ++ map directive_row (map (λ d. d.now) (take l.directive-index l.directives))
