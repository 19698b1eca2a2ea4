use Rattle.std.proofs.Common.{map, take}
use Rattle.gql_iface_rules.specs.S19Inputs.{object_value}
use Rattle.gql_iface_rules.specs.S19Ranges.{AreMissing}
use Rattle.gql_iface_rules.proofs.s19_ranges.missing.Given as goal

abbrev pub invariant-loop-at : goal.invariant-loop-at
invariant-loop-at l = AreMissing (map object_value (take l.at-index l.all)) l.ranges.items
