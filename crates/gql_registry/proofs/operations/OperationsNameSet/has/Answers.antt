use Rattle.std.proofs.Common.{◌∙◌}
use Rattle.std.specs.Option.{option_copied}
use Rattle.gql_registry.proofs.OperationNames.{is_there, some_copied}
use Rattle.gql_registry.proofs.operations.OperationsNameSet.has.Goals as goal

pub returns : goal.returns
returns c =
    is_there c.args.name.now c.args.self.now.all (option_copied c.find.result) c.is_some.result (c.is_some.ensures ∙ some_copied c.find.result) c.find.ensures
