use Rattle.std.proofs.Common.{◌≡◌, ◌++◌, take}
use Rattle.gql_ast.specs.declared.executable.OperationKind.{OperationKind}
use Rattle.gql_schema_rules.specs.KindsSeen.{has}
use Rattle.gql_schema_rules.specs.S34DuplicateSchemas.{has_kind, faults_of_roots}
use Rattle.gql_schema_rules.proofs.s34_duplicate_schemas.check_roots.Given as goal

abbrev pub invariant-loop-root : goal.invariant-loop-root
invariant-loop-root l = ((k : OperationKind) → has l.seen k ≡ has_kind (take l.root-index l.roots) k)
    × (l.faults.items ≡ l.initial.faults.items ++ faults_of_roots (take l.root-index l.roots))
