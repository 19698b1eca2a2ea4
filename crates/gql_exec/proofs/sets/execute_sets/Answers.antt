use Rattle.std.proofs.Common.{◌≡◌, ◌<◌, [], ◌∙◌, false, true, refl, sym, ap, subst}
use Rattle.gql_collect.specs.Borrowed.{all_selections}
use Rattle.serde_json.specs.View.{view}
use Rattle.gql_steps.specs.Execution.{Plan, answer, answered, execute, stored}
use Rattle.gql_steps.specs.Objects.{basis}
use Rattle.gql_steps.specs.Outcomes.{outcome_of}
use Rattle.gql_steps.specs.Plans.{IsPlan, is_met, types_of}
use Rattle.gql_exec.specs.RootParts.{seen}
use Rattle.gql_steps.specs.Runs.{Finishes, IsOutcomeOf}
use Rattle.gql_steps.specs.declared.refusal.ExecRefusal.TheVariants.{Memory, TooHeavy}
use Rattle.gql_steps.specs.declared.run.Run.{Run}
use Rattle.gql_steps.proofs.Ending.{err_is, err_then, ok_then}
use Rattle.gql_steps.proofs.Entries.{right_none}
use Rattle.gql_exec.proofs.Starting.{sets_done, sets_heavy}
use Rattle.gql_exec.proofs.sets.execute_sets.Goals as goal

other : Memory ≡ TooHeavy → ⊥
other e = absurd (cc e)

pub add_sets-requires : goal.add_sets-requires
add_sets-requires c = right_none (basis c.args.setting.now) c.new-table.result c.new-table.ensures

pub returns-clause-outcome : goal.returns-clause-outcome
returns-clause-outcome c =
    let g = basis c.args.setting.now in
    let root = c.args.root.now in
    let types = types_of (basis c.args.setting.now) in
    let d = view c.args.initial.now in
    let s : Run = record { out = c.in_ok-with_capacity.field-0; errors = c.new.result; path = c.new-2.result; left = c.args.most; raised = false } in
    ok_then c.finish.result (λ o. Finishes c.in_ok-ended.ended c.execute_object.new.run (seen c.new-3.result.items) (outcome_of o))
    (λ o. is_met g root root ≡ true → (x : Plan) → IsPlan g root (all_selections c.args.sets.now) x → IsOutcomeOf c.args.most (outcome_of o) (answer types x root d))
    (λ o h met x i. subst (λ es. IsOutcomeOf c.args.most (outcome_of o) (answered es (execute types x root [] (stored d)))) (ap seen c.new-3.ensures.items) (h (execute types x root [] (stored d)) s (record { out = c.in_ok-with_capacity.ensures.items; errors = c.new.ensures.items; raised = refl })
    (sets_done g c.add_sets.new.self c.in_ok-entry.entry root (all_selections c.args.sets.now) x d s c.execute_object.new.run c.in_ok-entry.ensures.has met i c.new-2.ensures.items
    c.in_ok-ended.ended c.in_ok-ended.ensures.does))) c.finish.ensures.outcome

pub returns-clause-heavy : goal.returns-clause-heavy
returns-clause-heavy c =
    let g = basis c.args.setting.now in
    let root = c.args.root.now in
    err_then c.finish.result (λ e. e ≡ Memory)
    (λ e. e ≡ TooHeavy → is_met g root root ≡ true → (x : Plan) → IsPlan g root (all_selections c.args.sets.now) x
    → c.args.most < (answer (types_of (basis c.args.setting.now)) x root (view c.args.initial.now)).weight)
    (λ e m h met x i. absurd (other (sym m ∙ h))) c.finish.ensures.err

pub returns-in_err-ended-clause-heavy : goal.returns-in_err-ended-clause-heavy
returns-in_err-ended-clause-heavy c =
    let g = basis c.args.setting.now in
    let root = c.args.root.now in
    let s : Run = record { out = c.in_ok-with_capacity.field-0; errors = c.new.result; path = c.new-2.result; left = c.args.most; raised = false } in
    err_is c.from_residual-in_err-ended.result c.in_err-ended.field-0.0 c.from_residual-in_err-ended.ensures.1
    (λ e. e ≡ TooHeavy → is_met g root root ≡ true → (x : Plan) → IsPlan g root (all_selections c.args.sets.now) x
    → c.args.most < (answer (types_of (basis c.args.setting.now)) x root (view c.args.initial.now)).weight)
    (λ heavy met x i. sets_heavy g c.add_sets.new.self c.in_ok-entry.entry root (all_selections c.args.sets.now) x (view c.args.initial.now) s c.execute_object.new.run
    c.in_ok-entry.ensures.has met i c.new-2.ensures.items c.in_err-ended.field-0.0 c.in_err-ended.ensures.does heavy)
