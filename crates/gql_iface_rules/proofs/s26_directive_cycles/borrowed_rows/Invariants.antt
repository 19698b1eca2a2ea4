use Rattle.std.proofs.Common.{◌≡◌, map, take}
use Rattle.gql_cycles.specs.Names.{row_of}
use Rattle.gql_iface_rules.specs.Borrowed.{steps}
use Rattle.gql_iface_rules.proofs.s26_directive_cycles.borrowed_rows.Given as goal

abbrev pub invariant-loop-row : goal.invariant-loop-row
invariant-loop-row l = map row_of l.rows.items ≡ map steps (take l.row-index l.owned)
