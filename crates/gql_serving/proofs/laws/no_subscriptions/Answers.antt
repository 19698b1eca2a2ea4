use Rattle.gql_serving.proofs.Roots.{no_subscription}
use Rattle.gql_serving.proofs.laws.no_subscriptions.Goals as goal

pub returns : goal.returns
returns c = λ files d operation none is there sound clean. no_subscription files sound d operation is there clean none
