use Rattle.std.proofs.Common.{◌≡◌, ◌++◌, flat_map, take}
use Rattle.gql_iface_rules.specs.S26DirectiveCycles.{from_input}
use Rattle.gql_iface_rules.proofs.s26_parts.add_inputs.Given as goal

abbrev pub invariant-loop-input : goal.invariant-loop-input
invariant-loop-input l = l.names ≡ l.initial.names ++ flat_map from_input (take l.input-index l.inputs)
