use Rattle.std.proofs.Common.{take}
use Rattle.gql_iface_rules.specs.Checked.{HasRowsOf}
use Rattle.gql_iface_rules.proofs.s17_input_object_cycles.keeps_rows.Given as goal

abbrev pub invariant-loop-of_type : goal.invariant-loop-of_type
invariant-loop-of_type l = HasRowsOf l.before (take l.of_type-index l.types)
