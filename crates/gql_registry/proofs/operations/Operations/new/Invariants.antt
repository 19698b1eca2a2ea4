use Rattle.std.proofs.Common.{◌≡◌, ◌++◌, ℕ, List}
use Rattle.gql_ast.specs.declared.definition.Document.{Document}
use Rattle.gql_chunks.specs.Lists.{AreInOrder}
use Rattle.gql_registry.specs.Indexed.{HaveSame, kept_operations}
use Rattle.gql_registry.specs.OperationOrders.{operation_order}
use Rattle.gql_registry.proofs.operations.Operations.new.Given as goal

abbrev pub invariant-loop-name : goal.invariant-loop-name
invariant-loop-name l = (done : List (List ℕ × Document)) × (done ++ l.name-iterator ≡ l.documents) × HaveSame l.all (kept_operations done) × AreInOrder operation_order l.all
