use Rattle.gql_registry.proofs.OperationNames.{first_is_unnamed, none_first}
use Rattle.std.proofs.Common.{refl}
use Rattle.gql_registry.proofs.operations.OperationsNameSet.is_empty.Goals as goal

pub returns-in-Some : goal.returns-in-Some
returns-in-Some c = first_is_unnamed c.args.self.now.all c.in-Some.operation.now c.is_none.result c.iter-in_order.ensures.order c.in-Some.ensures c.is_none.ensures

pub returns-in-None : goal.returns-in-None
returns-in-None c = (λ t. none_first c.args.self.now.all c.in-None.ensures, λ e. refl)
