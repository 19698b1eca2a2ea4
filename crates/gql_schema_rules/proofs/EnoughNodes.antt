-- The definitions and extensions are enough nodes; those of types are not needed if none of them is at fault by its name.
use Rattle.std.proofs.Common.{◌++◌, flat_map, refl, sym}
use Rattle.gql_ast.specs.declared.type_system.DirectiveDefinition.{DirectiveDefinition}
use Rattle.gql_node_rules.specs.FileFaults.{definitions_alone, without_types}
use Rattle.gql_node_rules.specs.Nodes.{AllNodes, each}
use Rattle.gql_types.specs.declared.schema.Schema.{Schema}
use Rattle.gql_schema_rules.specs.NodesToCheck.{AreOnce, FindsSame}
use Rattle.gql_schema_rules.specs.S02DuplicateDirectives as s02
use Rattle.gql_schema_rules.specs.S04BuiltInNames as s04
use Rattle.gql_schema_rules.specs.S27ExtensionsOfUnknownTypes as s27
use Rattle.gql_schema_rules.specs.S28ExtensionsOfAnotherKind as s28

pub alone : (s : Schema) (n : AllNodes) → FindsSame s (definitions_alone n) n
alone s n = record { joint = refl; definitions = refl; roots = λ files. refl }

pub without : (s : Schema) (n : AllNodes) → AreOnce n → FindsSame s (without_types n) n
without s n once = record {
  joint = refl;
  definitions = λ k. sym once.once k ++ (s02.faults n
      ++ ((sym once.new k ++ flat_map s04.fault_of_directive (each (λ (d : DirectiveDefinition). d.name) n.directives))
      ++ (s27.faults n s ++ s28.faults n s)));
  roots = λ files. refl;
}
