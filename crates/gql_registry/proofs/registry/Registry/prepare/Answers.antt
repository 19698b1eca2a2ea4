use Rattle.std.specs.Option.{option_copied}
use Rattle.gql_registry.specs.State.{state_of}
use Rattle.gql_registry.proofs.Called.{not_prepared}
use Rattle.serde_json.specs.View.{view}
use Rattle.gql_registry.proofs.registry.Registry.prepare.Goals as goal

pub returns-in_err-additions-clause-answers : goal.returns-in_err-additions-clause-answers
returns-in_err-additions-clause-answers c =
    not_prepared (state_of c.args.self.now).files (state_of c.args.self.now).stored (option_copied c.args.name) (view c.args.variables.now) c.from_residual-in_err-additions.result c.from_residual-in_err-additions.ensures.1
