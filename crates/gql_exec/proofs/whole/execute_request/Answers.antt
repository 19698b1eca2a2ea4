use Rattle.std.proofs.Common.{◌≡◌, ◌<◌, ◌≤◌, subst}
use Rattle.gql_coerce.specs.Comes as comes
use Rattle.gql_coerce.specs.Requests.{VariablesCome}
use Rattle.serde_json.specs.View.{view}
use Rattle.gql_steps.specs.Plans.{Basis}
use Rattle.gql_steps.specs.Outcomes.{outcome_of}
use Rattle.gql_steps.specs.Requests.{basis_of, IsOutcome, IsTooHeavy, Request}
use Rattle.gql_steps.specs.Runs.{Answering, IsOutcomeOf, IsRefused, request}
use Rattle.gql_steps.specs.declared.refusal.ExecRefusal.TheVariants.{TooHeavy}
use Rattle.gql_steps.proofs.Ending.{answers, answers_refused, err_then, ok_then}
use Rattle.gql_exec.proofs.whole.execute_request.Goals as goal

pub returns-in-Ok-clause-outcome : goal.returns-in-Ok-clause-outcome
returns-in-Ok-clause-outcome c =
    let r : Request = request c.args.schema.now c.args.made.now c.args.fragments.now.all c.args.file.now c.args.operation.now (view c.args.variables.now) (view c.args.stored.now) in
    let g : Basis = basis_of r (view c.in-Ok.values) in
    let come : VariablesCome r.schema r.operation.variables r.variables (comes.value (view c.in-Ok.values)) =
    subst (λ ds. VariablesCome r.schema ds r.variables (comes.value (view c.in-Ok.values))) c.as_slice-definitions.ensures c.in-Ok.ensures.ok in
    ok_then c.execute_operation.result (λ o. Answering g c.args.file.now c.args.operation.now (view c.args.stored.now) (λ a. IsOutcomeOf c.args.most (outcome_of o) a)) (λ o. IsOutcome c.args.most r (outcome_of o))
    (λ o h. answers r (view c.in-Ok.values) (λ p. (p.weight ≤ c.args.most) × (outcome_of o ≡ p.outcome)) c.one_of_variables.ensures come h) c.execute_operation.ensures.outcome

pub returns-in-Ok-clause-heavy : goal.returns-in-Ok-clause-heavy
returns-in-Ok-clause-heavy c =
    let r : Request = request c.args.schema.now c.args.made.now c.args.fragments.now.all c.args.file.now c.args.operation.now (view c.args.variables.now) (view c.args.stored.now) in
    let g : Basis = basis_of r (view c.in-Ok.values) in
    let come : VariablesCome r.schema r.operation.variables r.variables (comes.value (view c.in-Ok.values)) =
    subst (λ ds. VariablesCome r.schema ds r.variables (comes.value (view c.in-Ok.values))) c.as_slice-definitions.ensures c.in-Ok.ensures.ok in
    err_then c.execute_operation.result (λ e. e ≡ TooHeavy → Answering g c.args.file.now c.args.operation.now (view c.args.stored.now) (λ a. c.args.most < a.weight)) (λ e. e ≡ TooHeavy → IsTooHeavy c.args.most r)
    (λ e h m. answers r (view c.in-Ok.values) (λ p. c.args.most < p.weight) c.one_of_variables.ensures come (h m)) c.execute_operation.ensures.heavy

pub returns-in_ok-request_error-in-Err-Refused-clause-outcome : goal.returns-in_ok-request_error-in-Err-Refused-clause-outcome
returns-in_ok-request_error-in-Err-Refused-clause-outcome c =
    let r : Request = request c.args.schema.now c.args.made.now c.args.fragments.now.all c.args.file.now c.args.operation.now (view c.args.variables.now) (view c.args.stored.now) in
    let f = c.in-Err-Refused.refusal in
    let o = outcome_of c.in_ok-request_error-in-Err-Refused.field-0 in
    let told = rw c.in-Err-Refused.field-0-is at c.in-Err-Refused.ensures.err in
    answers_refused c.args.most r f o c.one_of_variables.ensures
    (subst (λ ds. VariablesCome r.schema ds r.variables (comes.refused f.reason f.path)) c.as_slice-definitions.ensures told)
    (subst (λ ds. IsRefused ds f o) c.as_slice-definitions.ensures c.in_ok-request_error-in-Err-Refused.ensures)
