use Rattle.std.proofs.Common.{◌≡◌, ◌∙◌, ◌==◌, false, true, List, Err, sym, subst, length}
use Rattle.std.specs.Option.{option_copied}
use Rattle.gql_ast.specs.declared.fault.Fault.{Fault}
use Rattle.gql_registry.specs.Calling.{TellsRun}
use Rattle.gql_registry.specs.Calls.{Answers, faulty, no_operation}
use Rattle.gql_registry.specs.declared.refusal.Refusal.TheVariants.{Faulty}
use Rattle.gql_registry.proofs.Called.{answered, failed, none_stands, unrun}
use Rattle.gql_registry.proofs.Mapped.{ok_map, err_map}
use Rattle.gql_registry.proofs.Reports.{some_if, none_if}
use Rattle.serde_json.specs.View.{view}
use Rattle.gql_registry.proofs.calling.answer_call.Goals as goal

pub returns-in_default : goal.returns-in_default
returns-in_default c = λ files known profile. no_operation (sym (c.in_default.ensures files.documents known.index.operations))

pub returns-in_err-faults : goal.returns-in_err-faults
returns-in_err-faults c = λ files known profile.
    failed files (view c.args.stored.now) (option_copied c.args.name) (view c.args.variables.now) c.from_residual.result c.from_residual.ensures.1

pub returns-then-not-is_empty : goal.returns-then-not-is_empty
returns-then-not-is_empty c = λ files known profile.
    let some = some_if c.in_ok-faults.faults.items (subst (λ (xs : List Fault). (length xs == 0) ≡ false) c.as_slice.ensures.value (sym c.is_empty.ensures ∙ c.if-not-is_empty.true)) in
    subst (λ (xs : List Fault). Answers files (view c.args.stored.now) (option_copied c.args.name) (view c.args.variables.now) (Err (Faulty xs))) (sym c.from_vec.ensures)
    (faulty (sym (c.in-Some.ensures files.documents known.index.operations)) (c.in_ok-faults.ensures files known) some)

pub returns-then-not-runs : goal.returns-then-not-runs
returns-then-not-runs c = λ files known profile.
    let none = none_if c.in_ok-faults.faults.items (subst (λ (xs : List Fault). (length xs == 0) ≡ true) c.as_slice.ensures.value (sym c.is_empty.ensures ∙ c.if-not-is_empty.false)) in
    unrun files (view c.args.stored.now) (option_copied c.args.name) (view c.args.variables.now) c.in-Some.definition.now
    (sym (c.in-Some.ensures files.documents known.index.operations))
    (none_stands files c.in-Some.definition.now c.in_ok-faults.faults.items (c.in_ok-faults.ensures files known) none)
    (subst (TellsRun c.in-Some.definition.now) c.if-not-runs.true c.runs.ensures)

pub returns : goal.returns
returns c = λ files known profile.
    let none = none_if c.in_ok-faults.faults.items (subst (λ (xs : List Fault). (length xs == 0) ≡ true) c.as_slice.ensures.value (sym c.is_empty.ensures ∙ c.if-not-is_empty.false)) in
    answered c.some_answer.ensures files (view c.args.stored.now) (option_copied c.args.name) (view c.args.variables.now) c.in-Some.definition.now
    (sym (c.in-Some.ensures files.documents known.index.operations))
    (none_stands files c.in-Some.definition.now c.in_ok-faults.faults.items (c.in_ok-faults.ensures files known) none)
    (subst (TellsRun c.in-Some.definition.now) c.if-not-runs.false c.runs.ensures)
    c.executed.result
    (ok_map c.executed.result _ _ (λ reply h. h files known profile) c.executed.ensures.ok)
    (err_map c.executed.result _ _ (λ e h. h files known profile) c.executed.ensures.err)
