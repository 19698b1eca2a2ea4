use Rattle.std.proofs.Common.{◌≡◌, filter, take}
use Rattle.gql_node_rules.specs.SchemaChanges.{has_other_kind}
use Rattle.gql_node_rules.proofs.schema_change.other_kinds.Given as goal

abbrev pub invariant-loop-name : goal.invariant-loop-name
invariant-loop-name l = l.found.items ≡ filter (has_other_kind l.before l.after) (take l.name-index l.names)
