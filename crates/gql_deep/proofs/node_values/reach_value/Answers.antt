use Rattle.std.proofs.Common.{option_map, refl, subst, sym, ap, ◌∙◌}
use Rattle.serde_json.specs.Data as json
use Rattle.serde_json.specs.View.{view}
use Rattle.gql_inputs.specs.InputTypes.{name_in}
use Rattle.gql_intro.specs.Borrowed.{answer_of, node_of}
use Rattle.gql_types.specs.Written.{written}
use Rattle.gql_steps.specs.Execution.{PlannedField, complete, on_answer}
use Rattle.gql_steps.specs.Objects.{basis}
use Rattle.gql_steps.specs.Plans.{IsPlan, types_of}
use Rattle.gql_steps.specs.States.{path_of}
use Rattle.gql_steps.specs.Tables.{below_at}
use Rattle.gql_steps.specs.Texts.{value_part}
use Rattle.gql_steps.specs.ValueParts.{answer_part, site_of}
use Rattle.gql_deep.proofs.Entering.{as_reached}
use Rattle.gql_steps.proofs.Executing.{answer_at}
use Rattle.gql_deep.proofs.Introspecting.{any_site, answer_text}
use Rattle.gql_deep.proofs.node_values.reach_value.Goals as goal

pub returns-in-Some-clause-does : goal.returns-in-Some-clause-does
returns-in-Some-clause-does c = λ q h.
    let g = basis c.args.setting.now in
    let s = site_of (types_of g) c.args.field.now.place q.1 in
    let t = written c.args.field.now.of_type.now in
    let p = path_of c.args.run.now in
    let of = answer_of c.args.setting.now.context.schema.now in
    as_reached g c.reach_answer.new.table (answer_part (types_of g) (view c.args.arguments.now) (node_of c.args.node) q p)
    (answer_text g c.args.field.now.place t c.args.run.now q.1 (of c.in-Some.answer))
    c.reach_answer.result c.args.run.now c.reach_answer.new.run
    (answer_at (types_of g) (view c.args.arguments.now) (node_of c.args.node) q p c.args.field.now h.planned
    ∙ ap (λ o. value_part (on_answer s t p o)) (sym c.introspect.ensures ∙ ap (option_map of) c.in-Some.is))
    (c.reach_answer.ensures.does q.1
    (subst (λ n. IsPlan g n (below_at c.args.table.now c.args.slot) q.1) (ap (λ (e : PlannedField). name_in e.of_type) h.planned)
    (subst (λ xs. IsPlan g (name_in q.0.of_type) xs q.1) (sym c.requires.at.below) h.below)))

pub returns-clause-does : goal.returns-clause-does
returns-clause-does c = λ q h.
    let g = basis c.args.setting.now in
    let s = site_of (types_of g) c.args.field.now.place q.1 in
    let t = written c.args.field.now.of_type.now in
    let p = path_of c.args.run.now in
    as_reached g c.args.table.now (answer_part (types_of g) (view c.args.arguments.now) (node_of c.args.node) q p)
    (value_part (complete s t p json.null)) c.done.result c.args.run.now c.complete_null.new.run
    (answer_at (types_of g) (view c.args.arguments.now) (node_of c.args.node) q p c.args.field.now h.planned
    ∙ ap (λ o. value_part (on_answer s t p o)) (sym c.introspect.ensures ∙ ap (option_map (answer_of c.args.setting.now.context.schema.now)) c.in-None.is))
    (c.done.ensures.does g c.args.table.now (value_part (complete s t p json.null)) c.args.run.now c.complete_null.new.run (c.complete_null.ensures s refl))

pub returns-clause-keeps : goal.returns-clause-keeps
returns-clause-keeps c =
    let s = any_site (basis c.args.setting.now) c.args.field.now.place in
    c.done.ensures.keeps (basis c.args.setting.now) c.args.table.now (value_part (complete s (written c.args.field.now.of_type.now) (path_of c.args.run.now) json.null))
    c.args.run.now c.complete_null.new.run c.requires.right (c.complete_null.ensures s refl)
