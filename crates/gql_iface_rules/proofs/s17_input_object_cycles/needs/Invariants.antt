use Rattle.std.proofs.Common.{◌≡◌, map, take}
use Rattle.gql_iface_rules.specs.S17InputObjectCycles.{needs}
use Rattle.gql_iface_rules.proofs.s17_input_object_cycles.needs.Given as goal

abbrev pub invariant-loop-field : goal.invariant-loop-field
invariant-loop-field l = map (λ n. n.now) l.names.items ≡ needs (take l.field-index l.fields)
