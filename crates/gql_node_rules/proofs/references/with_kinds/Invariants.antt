use Rattle.std.proofs.Common.{◌≡◌, map, take}
use Rattle.gql_faults.specs.Places.{named}
use Rattle.gql_node_rules.specs.Resolved.{reference, with_kind}
use Rattle.gql_node_rules.proofs.references.with_kinds.Given as goal

abbrev pub invariant-loop-name : goal.invariant-loop-name
invariant-loop-name l = map reference l.found.items ≡ map (with_kind l.schema) (map named (take l.name-index l.names))
