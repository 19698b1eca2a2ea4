use Rattle.std.proofs.Common.{rules, ◌∙◌, ap, sym}
use Rattle.serde_json.specs.View.{view}
use Rattle.gql_collect.specs.Borrowed.{names_of, nodes_of, selections_of}
use Rattle.gql_collect.specs.Conditions.{is_left_out}
use Rattle.gql_collect.specs.Contexts.{given}
use Rattle.gql_collect.specs.Nodes.{in_file}
use Rattle.gql_collect.specs.Unfolding.{applies}
use Rattle.gql_collect.proofs.Visiting.{inline_left, inline_held, skipped, not_met, counts}
use Rattle.gql_collect.proofs.visit.held_inline.Goals as goal

pub returns-then-is_left_out : goal.returns-then-is_left_out
returns-then-is_left_out c = λ met. inline_left (given c.args.context.now) c.args.of_type.now
    (names_of met.fragments.keys) (nodes_of met.fields.keys)
    c.args.file.now c.args.inline.now (selections_of c.nothing.result)
    (skipped (is_left_out (view c.args.context.now.values.now) c.args.inline.now.directives)
    (applies (given c.args.context.now) c.args.of_type.now c.args.inline.now.condition) (search rules))
    c.nothing.ensures

pub returns-then-not-has_condition_met : goal.returns-then-not-has_condition_met
returns-then-not-has_condition_met c = λ met. inline_left (given c.args.context.now) c.args.of_type.now
    (names_of met.fragments.keys) (nodes_of met.fields.keys)
    c.args.file.now c.args.inline.now (selections_of c.nothing-then-not-has_condition_met.result)
    (not_met (is_left_out (view c.args.context.now.values.now) c.args.inline.now.directives)
    (applies (given c.args.context.now) c.args.of_type.now c.args.inline.now.condition)
    (sym c.has_condition_met.ensures ∙ c.if-not-has_condition_met.true))
    c.nothing-then-not-has_condition_met.ensures

pub returns : goal.returns
returns c = λ met. inline_held (given c.args.context.now) c.args.of_type.now
    (names_of met.fragments.keys) (nodes_of met.fields.keys)
    c.args.file.now c.args.inline.now (selections_of (record { file = c.args.file; selections = c.as_slice-2.result }))
    (counts (is_left_out (view c.args.context.now.values.now) c.args.inline.now.directives)
    (applies (given c.args.context.now) c.args.of_type.now c.args.inline.now.condition) (search rules)
    (sym c.has_condition_met.ensures ∙ c.if-not-has_condition_met.false))
    (ap (λ xs. in_file c.args.file.now xs) c.as_slice-2.ensures)
