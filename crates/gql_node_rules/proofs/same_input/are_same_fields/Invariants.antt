use Rattle.std.proofs.Common.{◌≡◌, map, take}
use Rattle.gql_inputs.specs.Lookups.{field_of}
use Rattle.gql_node_rules.proofs.same_input.are_same_fields.Given as goal

abbrev pub invariant-loop-i : goal.invariant-loop-i
invariant-loop-i l = map field_of (take l.i l.fields) ≡ map field_of (take l.i l.others)
