use Rattle.std.proofs.Common.{◌≡◌, ◌<◌, ◌++◌, [], ◌∙◌, false, true, refl, ap, subst}
use Rattle.gql_collect.specs.Borrowed.{all_selections}
use Rattle.gql_steps.specs.Execution.{Plan, answered, execute_root, mutation_answer}
use Rattle.gql_steps.specs.Objects.{basis}
use Rattle.gql_steps.specs.Outcomes.{outcome_of}
use Rattle.gql_steps.specs.Plans.{IsPlan, is_met, types_of}
use Rattle.gql_exec.specs.RootParts.{effects_in, root_of, seen}
use Rattle.gql_steps.specs.Runs.{Finishes, IsOutcomeOf}
use Rattle.gql_steps.specs.declared.refusal.ExecRefusal.TheVariants.{TooHeavy}
use Rattle.gql_steps.specs.declared.run.Run.{Run}
use Rattle.gql_types.specs.Schemas.{append_of}
use Rattle.serde_json.specs.View.{view}
use Rattle.gql_steps.proofs.Ending.{err_is, ok_then}
use Rattle.gql_exec.proofs.Mutating.{added_are, root_done, root_heavy}
use Rattle.gql_exec.proofs.sets.mutate_sets.Goals as goal

pub returns-in_err-ended-clause-heavy : goal.returns-in_err-ended-clause-heavy
returns-in_err-ended-clause-heavy c =
    let g = basis c.args.setting.now in
    let root = c.args.root.of_type.now in
    let r = root_of g c.args.root in
    let s : Run = record { out = c.in_ok-with_capacity.field-0; errors = c.new.result; path = c.new-2.result; left = c.args.most; raised = false } in
    err_is c.from_residual-in_err-ended.result c.in_err-ended.field-0.0 c.from_residual-in_err-ended.ensures.1
    (λ e. e ≡ TooHeavy → is_met g root root ≡ true → (x : Plan) → IsPlan g root (all_selections c.args.sets.now) x
    → c.args.most < (mutation_answer (types_of g) (append_of c.args.setting.now.context.schema.now root) x root (view c.args.root.stored.now) (view c.args.root.initial.now)).weight)
    (λ heavy met x i. root_heavy g c.add_sets.new.self c.in_ok-entry.entry root (all_selections c.args.sets.now) x r s c.execute_root.new.run
    c.in_ok-entry.ensures.has met i c.new-2.ensures.items c.in_err-ended.field-0.0 c.in_err-ended.ensures.does heavy)

pub returns-clause-outcome : goal.returns-clause-outcome
returns-clause-outcome c =
    let g = basis c.args.setting.now in
    let root = c.args.root.of_type.now in
    let types = types_of g in
    let r = root_of g c.args.root in
    let s : Run = record { out = c.in_ok-with_capacity.field-0; errors = c.new.result; path = c.new-2.result; left = c.args.most; raised = false } in
    let u = c.execute_root.new.run in
    let added = seen c.execute_root.new.effects.items in
    ok_then c.finish.result (λ o. Finishes c.in_ok-ended.ended u added (outcome_of o))
    (λ o. is_met g root root ≡ true → (x : Plan) → IsPlan g root (all_selections c.args.sets.now) x
    → IsOutcomeOf c.args.most (outcome_of o) (mutation_answer types (append_of c.args.setting.now.context.schema.now root) x root (view c.args.root.stored.now) (view c.args.root.initial.now)))
    (λ o h met x i. subst (λ es. IsOutcomeOf c.args.most (outcome_of o) (answered es (execute_root types r.appending x root r.stored [] r.initial)))
    (added_are g c.add_sets.new.self c.in_ok-entry.entry root (all_selections c.args.sets.now) x r s u c.in_ok-entry.ensures.has met i added
    (λ qs stand. c.in_ok-ended.ensures.effects qs stand ∙ ap (λ es. seen es ++ effects_in r qs) c.new-effects.ensures.items))
    (h (execute_root types r.appending x root r.stored [] r.initial) s (record { out = c.in_ok-with_capacity.ensures.items; errors = c.new.ensures.items; raised = refl })
    (root_done g c.add_sets.new.self c.in_ok-entry.entry root (all_selections c.args.sets.now) x r s u c.in_ok-entry.ensures.has met i c.new-2.ensures.items
    c.in_ok-ended.ended c.in_ok-ended.ensures.does))) c.finish.ensures.outcome
