use Rattle.std.proofs.Common.{◌≡◌, ◌++◌, map, flat_map, take}
use Rattle.gql_node_rules.specs.Borrowed.{one}
use Rattle.gql_schema_rules.specs.S28ExtensionsOfAnotherKind.{fault_of_extension}
use Rattle.gql_schema_rules.proofs.s28_extensions_of_another_kind.check.Given as goal

abbrev pub invariant-loop-extension : goal.invariant-loop-extension
invariant-loop-extension l = l.faults.items ≡ l.initial.faults.items
    ++ flat_map (fault_of_extension l.schema) (map one (take l.extension-index l.extension-items))
