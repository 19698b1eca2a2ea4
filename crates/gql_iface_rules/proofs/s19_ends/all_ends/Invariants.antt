use Rattle.std.proofs.Common.{◌≡◌, flat_map, map, take}
use Rattle.gql_iface_rules.specs.S19Inputs.{object}
use Rattle.gql_iface_rules.specs.S19Ends.{ends_of}
use Rattle.gql_iface_rules.proofs.s19_ends.all_ends.Given as goal

abbrev pub invariant-loop-input_object : goal.invariant-loop-input_object
invariant-loop-input_object l = l.ends.items ≡ flat_map ends_of (map object (take l.input_object-index l.input_object-items))
