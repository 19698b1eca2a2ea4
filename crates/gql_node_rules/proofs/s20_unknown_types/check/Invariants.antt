use Rattle.std.proofs.Common.{◌≡◌, ◌++◌, map, flat_map, take}
use Rattle.gql_node_rules.specs.Resolved.{reference, unknown}
use Rattle.gql_node_rules.proofs.s20_unknown_types.check.Given as goal

abbrev pub invariant-loop-referring : goal.invariant-loop-referring
invariant-loop-referring l = l.faults.items ≡ l.initial.faults.items ++ flat_map unknown (map reference (take l.referring-index l.references))
