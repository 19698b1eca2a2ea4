use Rattle.std.proofs.Common.{◌≡◌, subst, rules}
use Rattle.gql_coerce.specs.Comes.{Eventually}
use Rattle.gql_coerce.specs.Outcomes.{request_said}
use Rattle.gql_coerce.specs.Requests.{arguments}
use Rattle.gql_coerce.specs.Scopes.{variables_of}
use Rattle.gql_coerce.proofs.requests.all_arguments.Goals as goal

pub returns : goal.returns
returns c = subst (λ given. Eventually (λ n. arguments n c.args.scope.now.schema.now c.args.definitions.now given (variables_of c.args.scope.now) ≡ request_said c.in_ok-coerced.coerced)) (search rules) c.in_ok-coerced.ensures
