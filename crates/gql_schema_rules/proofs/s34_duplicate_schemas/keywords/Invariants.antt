use Rattle.std.proofs.Common.{◌≡◌, map, take}
use Rattle.gql_ast.specs.declared.type_system.SchemaDefinition.{SchemaDefinition}
use Rattle.gql_faults.specs.Places.{spot}
use Rattle.gql_node_rules.specs.Borrowed.{one}
use Rattle.gql_node_rules.specs.Nodes.{each}
use Rattle.gql_schema_rules.proofs.s34_duplicate_schemas.keywords.Given as goal

abbrev pub invariant-loop-schema : goal.invariant-loop-schema
invariant-loop-schema l = map spot l.words.items ≡ each (λ (d : SchemaDefinition). d.keyword) (map one (take l.schema-index l.schema-items))
