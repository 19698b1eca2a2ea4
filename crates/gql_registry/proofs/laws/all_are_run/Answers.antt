use Rattle.gql_registry.proofs.Called.{all_are_run}
use Rattle.gql_registry.proofs.laws.all_are_run.Goals as goal

pub returns : goal.returns
returns c = all_are_run c.no_subscriptions.ensures
