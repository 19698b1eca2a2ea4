use Rattle.std.proofs.Common.{◌≡◌, map, flat_map, take}
use Rattle.gql_cycles.specs.Names.{row_of}
use Rattle.gql_iface_rules.specs.S17InputObjectCycles.{input_row}
use Rattle.gql_iface_rules.proofs.s17_input_object_cycles.input_rows.Given as goal

abbrev pub invariant-loop-of_type : goal.invariant-loop-of_type
invariant-loop-of_type l = map row_of l.rows.items ≡ flat_map (λ t. input_row t.kind t) (take l.of_type-index l.of_type-items)
