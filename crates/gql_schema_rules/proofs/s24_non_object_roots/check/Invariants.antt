use Rattle.std.proofs.Common.{◌≡◌, ◌++◌, flat_map, take}
use Rattle.gql_schema_rules.specs.S24NonObjectRoots.{fault_of_root}
use Rattle.gql_schema_rules.proofs.s24_non_object_roots.check.Given as goal

abbrev pub invariant-loop-root : goal.invariant-loop-root
invariant-loop-root l = l.faults.items
    ≡ l.initial.faults.items ++ flat_map (fault_of_root l.schema) (take l.root-index l.schema.roots)
