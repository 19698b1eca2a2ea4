use Rattle.std.proofs.Common.{subst, sym, ap, ◌∙◌}
use Rattle.serde_json.specs.View.{view}
use Rattle.gql_inputs.specs.InputTypes.{name_in}
use Rattle.gql_types.specs.Written.{written}
use Rattle.gql_steps.specs.Execution.{PlannedField, complete}
use Rattle.gql_steps.specs.Objects.{basis}
use Rattle.gql_steps.specs.Plans.{IsPlan, types_of}
use Rattle.gql_steps.specs.States.{path_of}
use Rattle.gql_steps.specs.Tables.{below_at}
use Rattle.gql_steps.specs.Texts.{value_part}
use Rattle.gql_steps.specs.ValueParts.{IsAsked, source_part, resolved_in, site_of}
use Rattle.gql_deep.proofs.Entering.{as_reached}
use Rattle.gql_steps.proofs.Executing.{source_stored}
use Rattle.gql_steps.specs.declared.site.Site.{Site as FieldSite}
use Rattle.gql_deep.proofs.field_values.reach_stored.Goals as goal

pub returns-clause-does : goal.returns-clause-does
returns-clause-does c = λ q h.
    let g = basis c.args.setting.now in
    let f = c.args.field.now in
    let p = path_of c.args.run.now in
    let here : FieldSite = record { slot = c.args.slot; place = f.place; kind = f.kind } in
    as_reached g c.reach_resolved.new.table (source_part (types_of g) (view c.args.arguments.now) (view c.args.value.now) q p)
    (value_part (complete (site_of (types_of g) f.place q.1) (written f.of_type.now) p (resolved_in c.in_ok-resolved-in-Stored.resolved)))
    c.reach_resolved.result c.args.run.now c.reach_resolved.new.run
    (source_stored (types_of g) (view c.args.arguments.now) (view c.args.value.now) q p f h.planned c.in-Stored.is
    ∙ ap (λ y. value_part (complete (site_of (types_of g) f.place q.1) (written f.of_type.now) p y)) (sym c.in_ok-resolved-in-Stored.ensures.is))
    (c.reach_resolved.ensures.does q.1
    (subst (λ n. IsAsked g here n (below_at c.args.table.now c.args.slot) q.1) (ap (λ (e : PlannedField). name_in e.of_type) h.planned)
    (record { kind = h.kind; plan = subst (λ xs. IsPlan g (name_in q.0.of_type) xs q.1) (sym c.requires.at.below) h.below })))

pub returns-in-TypeName-clause-keeps : goal.returns-in-TypeName-clause-keeps
returns-in-TypeName-clause-keeps c = c.done.ensures.keeps (basis c.args.setting.now) c.args.table.now _ c.args.run.now c.write_name.new.run c.requires.right c.write_name.ensures
