use Rattle.std.proofs.Common.{◌≡◌, ◌++◌, take}
use Rattle.gql_iface_rules.specs.S26DirectiveCycles.{from_input_fields}
use Rattle.gql_iface_rules.proofs.s26_parts.add_input_fields.Given as goal

abbrev pub invariant-loop-field : goal.invariant-loop-field
invariant-loop-field l = l.names ≡ l.initial.names ++ from_input_fields (take l.field-index l.fields)
