use Rattle.std.proofs.Common.{rules, refl, sym, ◌∙◌, ap}
use Rattle.gql_collect.specs.Borrowed.{names_of, nodes_of, selections_of}
use Rattle.gql_collect.specs.Contexts.{given}
use Rattle.gql_collect.proofs.Visiting.{spread_left, spread_entered, spread_passed, name_inserted, name_there, not_true, not_false}
use Rattle.gql_collect.proofs.visit.visit_spread.Goals as goal

pub returns-then-is_left_out : goal.returns-then-is_left_out
returns-then-is_left_out c = spread_left (given c.args.context.now) c.args.of_type.now
    (names_of c.args.met.now.fragments.keys) (nodes_of c.args.met.now.fields.keys)
    c.args.file.now c.args.spread.now (selections_of c.nothing.result) (search rules) c.nothing.ensures

pub returns-then-branch : goal.returns-then-branch
returns-then-branch c =
    let there = name_there c.args.met.now.fragments.keys c.as_str-name.result.now in
    spread_entered (given c.args.context.now) c.args.of_type.now
    (names_of c.args.met.now.fragments.keys) (nodes_of c.args.met.now.fields.keys)
    c.args.file.now c.args.spread.now c.as_str-name.result.now
    (names_of c.insert.new.self.keys) (nodes_of c.args.met.now.fields.keys) (selections_of c.held_by.result)
    (search rules) c.as_str-name.ensures
    (sym there ∙ not_true _ (sym c.in_ok-insert.ensures.added ∙ c.if-branch.true))
    (ap names_of c.in_ok-insert.ensures.keys ∙ name_inserted c.args.met.now.fragments.keys c.as_str-name.result)
    refl c.held_by.ensures

pub returns-else-branch : goal.returns-else-branch
returns-else-branch c =
    let there = name_there c.args.met.now.fragments.keys c.as_str-name.result.now in
    spread_passed (given c.args.context.now) c.args.of_type.now
    (names_of c.args.met.now.fragments.keys) (nodes_of c.args.met.now.fields.keys)
    c.args.file.now c.args.spread.now c.as_str-name.result.now
    (names_of c.insert.new.self.keys) (nodes_of c.args.met.now.fields.keys) (selections_of c.nothing-else-branch.result)
    (search rules) c.as_str-name.ensures
    (sym there ∙ not_false _ (sym c.in_ok-insert.ensures.added ∙ c.if-branch.false))
    (ap names_of c.in_ok-insert.ensures.keys ∙ name_inserted c.args.met.now.fragments.keys c.as_str-name.result)
    refl c.nothing-else-branch.ensures
