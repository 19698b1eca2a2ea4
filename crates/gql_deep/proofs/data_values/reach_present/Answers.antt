use Rattle.std.proofs.Common.{true≢false, sym, ap, ◌∙◌}
use Rattle.serde_json.specs.View.{view}
use Rattle.gql_inputs.specs.InputTypes.{is_non_null}
use Rattle.gql_types.specs.Written.{written, written_named, written_list, written_non_null, listed, named}
use Rattle.gql_steps.specs.Objects.{basis}
use Rattle.gql_steps.specs.Tables.{below_at}
use Rattle.gql_deep.proofs.Reaching.{at_list, at_named}
use Rattle.gql_deep.proofs.data_values.reach_present.Goals as goal

pub returns-in-Named-clause-does : goal.returns-in-Named-clause-does
returns-in-Named-clause-does c = at_named (basis c.args.setting.now) c.reach_named.new.table c.args.site (below_at c.args.table.now c.args.site.slot) c.reach_named.result c.args.run.now c.reach_named.new.run
    (written c.args.of_type.now) c.as_str.result.now (view c.args.value.now) (ap written c.in-Named.is ∙ written_named c.in-Named.name ∙ ap named (sym c.as_str.ensures)) c.requires.present c.reach_named.ensures.does

pub returns-in-List-clause-does : goal.returns-in-List-clause-does
returns-in-List-clause-does c = at_list (basis c.args.setting.now) c.reach_list.new.table c.args.site (below_at c.args.table.now c.args.site.slot) c.reach_list.result c.args.run.now c.reach_list.new.run
    (written c.args.of_type.now) (written c.get.result.now) (view c.args.value.now) (ap written c.in-List.is ∙ written_list _ c.in-List.item ∙ ap (λ y. listed (written y)) (sym c.get.ensures)) c.requires.present c.reach_list.ensures.does

pub returns-in-NonNull-clause-does : goal.returns-in-NonNull-clause-does
returns-in-NonNull-clause-does c = λ x i. absurd (true≢false (sym (ap is_non_null (ap written c.in-NonNull.is ∙ written_non_null c.in-NonNull.field-0)) ∙ c.requires.nullable))

pub returns-in-NonNull-clause-keeps : goal.returns-in-NonNull-clause-keeps
returns-in-NonNull-clause-keeps c = c.done.ensures.keeps (basis c.args.setting.now) c.args.table.now _ c.args.run.now c.raise.new.run c.requires.right c.raise.ensures
