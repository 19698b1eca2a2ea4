use Rattle.std.proofs.Common.{◌≡◌, ◌++◌, map, take}
use Rattle.gql_iface_rules.specs.Borrowed.{steps}
use Rattle.gql_iface_rules.specs.S26DirectiveCycles.{type_row}
use Rattle.gql_iface_rules.proofs.s26_rows.add_type_rows.Given as goal

abbrev pub invariant-loop-of_type : goal.invariant-loop-of_type
invariant-loop-of_type l = map steps l.rows.items ≡ map steps l.initial.rows.items ++ map type_row (take l.of_type-index l.types)
