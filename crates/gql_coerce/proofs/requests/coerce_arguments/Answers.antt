use Rattle.std.proofs.Common.{◌≡◌, ℕ}
use Rattle.serde_json.specs.Data.{Data}
use Rattle.serde_json.specs.View.{view}
use Rattle.gql_coerce.specs.Comes.{Outcome, reached, value}
use Rattle.gql_coerce.specs.Outcomes.{request_said}
use Rattle.gql_coerce.specs.Requests.{Tells, arguments, ArgumentsCome}
use Rattle.gql_coerce.proofs.InTime.{to, onward, tells, tells_of, ok_onward, err_onward}
use Rattle.gql_coerce.proofs.requests.coerce_arguments.Goals as goal

pub returns-clause-ok : goal.returns-clause-ok
returns-clause-ok c = ok_onward c.of_request.result (λ v. request_said c.in_ok-coerced.coerced ≡ reached (value (view v)))
    (λ v. ArgumentsCome c.args.schema.now c.args.definitions.now c.args.given.now (view c.args.values.now) (value (view v)))
    (λ v is. to (λ (n : ℕ). arguments n c.args.schema.now c.args.definitions.now c.args.given.now (view c.args.values.now)) _ _ c.in_ok-coerced.ensures is)
    c.of_request.ensures.ok

pub returns-clause-err : goal.returns-clause-err
returns-clause-err c = err_onward c.of_request.result (λ e. Tells e (λ (o : Outcome Data). request_said c.in_ok-coerced.coerced ≡ reached o))
    (λ e. Tells e (ArgumentsCome c.args.schema.now c.args.definitions.now c.args.given.now (view c.args.values.now)))
    (λ e is. tells e (λ n. arguments n c.args.schema.now c.args.definitions.now c.args.given.now (view c.args.values.now))
    (onward (λ n. arguments n c.args.schema.now c.args.definitions.now c.args.given.now (view c.args.values.now) ≡ request_said c.in_ok-coerced.coerced) (λ n. Tells e (λ (o : Outcome Data). arguments n c.args.schema.now c.args.definitions.now c.args.given.now (view c.args.values.now) ≡ reached o))
    (λ n a. tells_of e (request_said c.in_ok-coerced.coerced) (arguments n c.args.schema.now c.args.definitions.now c.args.given.now (view c.args.values.now)) a is) c.in_ok-coerced.ensures))
    c.of_request.ensures.err
