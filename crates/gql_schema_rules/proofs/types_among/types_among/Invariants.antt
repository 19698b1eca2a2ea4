use Rattle.std.proofs.Common.{◌≡◌, filter, take}
use Rattle.gql_types.specs.Possible.{name_of}
use Rattle.gql_node_rules.specs.SchemaChanges.{is_among}
use Rattle.gql_schema_rules.proofs.types_among.types_among.Given as goal

abbrev pub invariant-loop-place : goal.invariant-loop-place
invariant-loop-place l = l.found.items ≡ filter (λ t. is_among l.names (name_of t)) (take l.place l.types)
