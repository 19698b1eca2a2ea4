use Rattle.std.proofs.Common.{◌≡◌, ◌++◌, flat_map, map, take}
use Rattle.gql_iface_rules.specs.S19Inputs.{object, numbered}
use Rattle.gql_iface_rules.specs.S19Ends.{end_of}
use Rattle.gql_iface_rules.proofs.s19_ends.add_ends.Given as goal

abbrev pub invariant-loop-input : goal.invariant-loop-input
invariant-loop-input l = l.ends.items ≡ l.initial.ends.items ++ flat_map (end_of (object l.input_object)) (map numbered (take l.input-index l.input-items))
