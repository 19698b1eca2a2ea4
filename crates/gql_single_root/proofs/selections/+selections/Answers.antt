use Rattle.std.proofs.Common.{◌∙◌, ap, sym, arith}
use Rattle.gql_single_root.specs.V30SingleRootField.{stays}
use Rattle.gql_single_root.proofs.Selecting.{inline_apart, inline_done, inline_gone, no_inline, no_inline_spread, of_kept, of_inline, one_done}
use Rattle.gql_single_root.proofs.selections.+selections.Goals as goal

pub add_inline-returns-then-not-stays-clause-added :
    goal.add_inline-returns-then-not-stays-clause-added
add_inline-returns-then-not-stays-clause-added g t c =
    inline_gone (g.W.World.facts c.args.world.now) c.args.root.now c.args.inline.now _ (sym (c.stays.ensures ∙ ap stays c.as_slice.ensures) ∙ c.if-not-stays.true)

pub add_inline-returns-then-not-is_on-clause-added :
    goal.add_inline-returns-then-not-is_on-clause-added
add_inline-returns-then-not-is_on-clause-added g t c =
    inline_apart (g.W.World.facts c.args.world.now) c.args.root.now c.args.inline.now _ (sym c.in_ok-is_on.ensures.applies ∙ c.if-not-is_on.true)

pub add_inline-returns-clause-added : goal.add_inline-returns-clause-added
add_inline-returns-clause-added g t c =
    inline_done (g.W.World.facts c.args.world.now) c.args.root.now _ c.args.inline.now c.as_slice-2.result.now _ _ c.in_ok-is_on.ensures.facts c.as_slice-2.ensures
    (sym (c.stays.ensures ∙ ap stays c.as_slice.ensures) ∙ c.if-not-stays.false) (sym c.in_ok-is_on.ensures.applies ∙ c.if-not-is_on.false)
    c.in_ok-add_set.ensures.added

pub add_selection-returns-in_ok-add_kept-in-Field-clause-added :
    goal.add_selection-returns-in_ok-add_kept-in-Field-clause-added
add_selection-returns-in_ok-add_kept-in-Field-clause-added g t c =
    of_kept (g.W.World.facts c.args.world.now) c.args.root.now c.args.selection.now _ _ (λ i e. no_inline c.in-Field.field-0 i (sym c.in-Field.is ∙ e))
    c.in_ok-add_kept-in-Field.ensures

pub add_selection-returns-in_ok-add_kept-in-Spread-clause-added :
    goal.add_selection-returns-in_ok-add_kept-in-Spread-clause-added
add_selection-returns-in_ok-add_kept-in-Spread-clause-added g t c =
    of_kept (g.W.World.facts c.args.world.now) c.args.root.now c.args.selection.now _ _ (λ i e. no_inline_spread c.in-Spread.field-0 i (sym c.in-Spread.is ∙ e))
    c.in_ok-add_kept-in-Spread.ensures

pub add_selection-returns-in_ok-add_inline-in-InlineFragment-clause-added :
    goal.add_selection-returns-in_ok-add_inline-in-InlineFragment-clause-added
add_selection-returns-in_ok-add_inline-in-InlineFragment-clause-added g t c =
    of_inline (g.W.World.facts c.args.world.now) c.args.root.now c.args.selection.now c.in-InlineFragment.inline _ _ c.in-InlineFragment.is
    c.in_ok-add_inline-in-InlineFragment.ensures.added

pub add_set-loop-selection-preserved : goal.add_set-loop-selection-preserved
add_set-loop-selection-preserved g t c =
    let F = g.W.World.facts c.args.world.now in
    let before = c.loop-selection.invariant in
    record {
      same_facts = c.in_ok-add_selection.ensures.facts ∙ before.same_facts;
      same_names = c.in_ok-add_selection.ensures.names ∙ before.same_names;
      same_lent = c.in_ok-add_selection.ensures.lent ∙ before.same_lent;
      added = one_done F c.args.root.now _ c.args.set.now c.loop-selection.selection-index c.selection-item.result _ _ _ (omega arith) (sym c.selection-item.is)
          before.same_facts before.added c.in_ok-add_selection.ensures.added;
    }
