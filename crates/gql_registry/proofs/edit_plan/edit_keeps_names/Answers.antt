use Rattle.gql_registry.proofs.NamedOperations.{same_names}
use Rattle.gql_registry.proofs.edit_plan.edit_keeps_names.Goals as goal

pub brings_new_names-requires-clause-operations : goal.brings_new_names-requires-clause-operations
brings_new_names-requires-clause-operations c = same_names c.args.files.now.documents c.args.index.now.operations c.requires.operations
