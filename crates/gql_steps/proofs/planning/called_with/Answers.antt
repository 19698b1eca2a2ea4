use Rattle.std.proofs.Common.{◌∙◌, ap, subst}
use Rattle.gql_coerce.specs.Comes as comes
use Rattle.gql_coerce.specs.Requests.{ArgumentsCome}
use Rattle.serde_json.specs.View.{view}
use Rattle.gql_steps.specs.Execution.{refused}
use Rattle.gql_steps.specs.Plans.{arguments_of}
use Rattle.gql_steps.proofs.planning.called_with.Goals as goal

pub returns-in-Ok : goal.returns-in-Ok
returns-in-Ok c = λ o h.
    let s = c.args.context.now.schema.now in
    let v = view c.args.context.now.values.now in
    let x = comes.value (view c.in-Ok.arguments) in
    ap arguments_of (c.one_of_arguments.ensures s c.args.definition.now.arguments c.args.field.now.arguments v x o
    (subst (λ ds. ArgumentsCome s ds c.args.field.now.arguments v x) c.as_slice-definitions.ensures
    (subst (λ gs. ArgumentsCome s c.as_slice-definitions.result.now gs v x) c.as_slice-given.ensures c.in-Ok.ensures.ok)) h)

pub returns-in_ok-refusal_text-in-Err-Refused : goal.returns-in_ok-refusal_text-in-Err-Refused
returns-in_ok-refusal_text-in-Err-Refused c = λ o h.
    let s = c.args.context.now.schema.now in
    let v = view c.args.context.now.values.now in
    let r = c.in-Err-Refused.refusal in
    let x = comes.refused r.reason r.path in
    let told = rw c.in-Err-Refused.field-0-is at c.in-Err-Refused.ensures.err in
    ap refused c.in_ok-refusal_text-in-Err-Refused.ensures
    ∙ ap arguments_of (c.one_of_arguments.ensures s c.args.definition.now.arguments c.args.field.now.arguments v x o
    (subst (λ ds. ArgumentsCome s ds c.args.field.now.arguments v x) c.as_slice-definitions.ensures
    (subst (λ gs. ArgumentsCome s c.as_slice-definitions.result.now gs v x) c.as_slice-given.ensures told)) h)
