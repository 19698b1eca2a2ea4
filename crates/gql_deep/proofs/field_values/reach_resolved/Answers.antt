use Rattle.std.proofs.Common.{Ok, option_map, refl, subst, sym, ap, ◌∙◌}
use Rattle.std.specs.Option.{option_copied}
use Rattle.gql_types.specs.Written.{written}
use Rattle.serde_json.specs.Data as json
use Rattle.gql_steps.specs.Execution.{complete}
use Rattle.gql_steps.specs.States.{path_of}
use Rattle.gql_steps.specs.Texts.{value_part}
use Rattle.gql_deep.proofs.Introspecting.{any_site}
use Rattle.gql_steps.specs.Objects.{basis}
use Rattle.gql_steps.specs.Tables.{below_at}
use Rattle.gql_steps.specs.ValueParts.{IsOf, data_items, resolved_in}
use Rattle.gql_steps.proofs.Completing.{has_items}
use Rattle.gql_steps.proofs.Executing.{name_of_items}
use Rattle.gql_deep.proofs.Reaching.{at_items}
use Rattle.gql_steps.specs.declared.items.DataItems.TheVariants as items
use Rattle.gql_deep.proofs.field_values.reach_resolved.Goals as goal

pub returns-in-Some-clause-does : goal.returns-in-Some-clause-does
returns-in-Some-clause-does c =
    let of_items = sym c.item_of.ensures ∙ ap (λ o. option_map written (option_copied o)) c.in-Some.is in
    at_items (basis c.args.setting.now) c.args.table.now c.args.site (below_at c.args.table.now c.args.site.slot) (Ok c.items_below.result) c.args.run.now c.args.run.now
    (written c.args.of_type.now) (written c.in-Some.item.now) (resolved_in c.args.resolved) (data_items (items.Kept c.in-Items.found)) of_items
    (name_of_items (written c.args.of_type.now) (written c.in-Some.item.now) of_items)
    (ap resolved_in c.in-Items.is)
    (c.items_below.ensures.does (basis c.args.setting.now) c.args.table.now c.args.run.now c.requires.within)

pub returns-clause-does : goal.returns-clause-does
returns-clause-does c = λ x i. absurd (has_items (written c.args.of_type.now)
    (subst (IsOf (written c.args.of_type.now)) c.in-Items.is c.requires.of) (sym c.item_of.ensures ∙ ap (λ o. option_map written (option_copied o)) c.in-None.is))

pub returns-in-Null-clause-keeps : goal.returns-in-Null-clause-keeps
returns-in-Null-clause-keeps c =
    let s = any_site (basis c.args.setting.now) c.args.site.place in
    c.done.ensures.keeps (basis c.args.setting.now) c.args.table.now (value_part (complete s (written c.args.of_type.now) (path_of c.args.run.now) json.null))
    c.args.run.now c.complete_null.new.run c.requires.right (c.complete_null.ensures s refl)

pub returns-in-Some-clause-keeps : goal.returns-in-Some-clause-keeps
returns-in-Some-clause-keeps c = c.items_below.ensures.keeps (basis c.args.setting.now) c.args.table.now c.args.run.now c.requires.right c.requires.within

pub returns-clause-keeps : goal.returns-clause-keeps
returns-clause-keeps c = absurd (has_items (written c.args.of_type.now)
    (subst (IsOf (written c.args.of_type.now)) c.in-Items.is c.requires.of) (sym c.item_of.ensures ∙ ap (λ o. option_map written (option_copied o)) c.in-None.is))
