use Rattle.std.proofs.Common.{Ok, map, Vec, Global, Bor, option_map, sym, ap, ◌∙◌}
use Rattle.serde_json.specs.Data as json
use Rattle.serde_json.specs.View.{items_view, view}
use Rattle.serde_json.specs.declared.value.Value.{Value}
use Rattle.gql_types.specs.Written.{written}
use Rattle.gql_steps.specs.Objects.{basis}
use Rattle.gql_steps.specs.Tables.{below_at}
use Rattle.gql_deep.proofs.Reaching.{at_array}
use Rattle.gql_steps.proofs.Resolving.{is_array}
use Rattle.gql_deep.proofs.data_values.reach_list.Goals as goal

pub returns-clause-does : goal.returns-clause-does
returns-clause-does c = at_array (basis c.args.setting.now) c.args.table.now c.args.site (below_at c.args.table.now c.args.site.slot) (Ok c.items_below.result) c.args.run.now c.args.run.now
    (written c.args.item.now) (view c.args.value.now) (map view c.as_slice.result.now)
    (is_array (view c.args.value.now) (items_view c.in-Some.values.now.items) (sym c.as_array.ensures ∙ ap (option_map (λ (v : Bor (Vec Value Global)). items_view v.now.items)) c.in-Some.is)
    ∙ ap (λ vs. json.array (items_view vs)) (sym c.as_slice.ensures.value)) (c.items_below.ensures.does (basis c.args.setting.now) c.args.table.now c.args.run.now c.requires.within)

pub returns-in_default-clause-keeps : goal.returns-in_default-clause-keeps
returns-in_default-clause-keeps c = c.done.ensures.keeps (basis c.args.setting.now) c.args.table.now _ c.args.run.now c.raise.new.run c.requires.right c.raise.ensures

pub returns-clause-keeps : goal.returns-clause-keeps
returns-clause-keeps c = c.items_below.ensures.keeps (basis c.args.setting.now) c.args.table.now c.args.run.now c.requires.right c.requires.within
