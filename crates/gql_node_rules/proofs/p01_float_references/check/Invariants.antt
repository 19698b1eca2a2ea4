use Rattle.std.proofs.Common.{◌≡◌, ◌++◌, map, flat_map, take}
use Rattle.gql_node_rules.specs.Resolved.{reference, to_float}
use Rattle.gql_node_rules.proofs.p01_float_references.check.Given as goal

abbrev pub invariant-loop-referring : goal.invariant-loop-referring
invariant-loop-referring l = l.faults.items ≡ l.initial.faults.items ++ flat_map to_float (map reference (take l.referring-index l.references))
