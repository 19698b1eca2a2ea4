use Rattle.std.proofs.Common.{◌≡◌, sym, ap, subst, ◌∙◌}
use Rattle.gql_ast.specs.declared.definition.Tree.{Tree}
use Rattle.gql_ast.specs.declared.definition.Tree.TheVariants as tree
use Rattle.gql_ast.specs.declared.executable.Operation.{Operation}
use Rattle.serde_json.specs.View.{view}
use Rattle.gql_steps.specs.Outcomes.{outcome_of}
use Rattle.gql_steps.specs.Requests.{IsOutcome, IsTooHeavy, Request}
use Rattle.gql_steps.specs.Runs.{request}
use Rattle.gql_steps.specs.declared.refusal.ExecRefusal.TheVariants.{TooHeavy}
use Rattle.gql_steps.proofs.Ending.{by_files, err_then, ok_then}
use Rattle.gql_exec.proofs.whole.execute.Goals as goal

-- the operation of a tree
operation_same : (t : Tree) (a b : Operation) → t ≡ tree.Operation a → t ≡ tree.Operation b → a ≡ b
operation_same t a b is_a is_b = let same : tree.Operation a ≡ tree.Operation b = sym is_a ∙ is_b in cc same

pub returns-clause-outcome : goal.returns-clause-outcome
returns-clause-outcome c =
    let d = c.args.definition.now in
    let of : Operation → Request = λ y. request c.args.schema.now c.args.made.now c.args.fragments.now.all d.file y (view c.args.variables.now) (view c.args.stored.now) in
    ok_then c.execute_request.result (λ o. IsOutcome c.args.most (of c.get-operation.result.now) (outcome_of o)) _
    (λ o h files operation kept is. subst (λ r. IsOutcome c.args.most r (outcome_of o))
    (ap of (c.get-operation.ensures ∙ operation_same d.tree c.in-Operation.operation operation c.in-Operation.is is)
    ∙ by_files files d operation c.args.schema.now c.args.made.now c.args.fragments.now.all (view c.args.variables.now) (view c.args.stored.now) kept) h)
    c.execute_request.ensures.outcome

pub returns-clause-heavy : goal.returns-clause-heavy
returns-clause-heavy c =
    let d = c.args.definition.now in
    let of : Operation → Request = λ y. request c.args.schema.now c.args.made.now c.args.fragments.now.all d.file y (view c.args.variables.now) (view c.args.stored.now) in
    err_then c.execute_request.result (λ e. e ≡ TooHeavy → IsTooHeavy c.args.most (of c.get-operation.result.now)) _
    (λ e h heavy files operation kept is. subst (IsTooHeavy c.args.most)
    (ap of (c.get-operation.ensures ∙ operation_same d.tree c.in-Operation.operation operation c.in-Operation.is is)
    ∙ by_files files d operation c.args.schema.now c.args.made.now c.args.fragments.now.all (view c.args.variables.now) (view c.args.stored.now) kept) (h heavy))
    c.execute_request.ensures.heavy
