use Rattle.gql_merge.proofs.SpreadParts.{sets_all, sets_field, sets_inline, sets_spread}
use Rattle.gql_merge.proofs.spread_names.+within.Goals as goal

pub add_sets-returns : goal.add_sets-returns
add_sets-returns t c = sets_all c.args.set.now c.loop-selection.selection-index c.args.sets.now.items c.loop-selection.sets.items
    c.loop-selection-test.false c.loop-selection.invariant

pub add_within-returns-in_ok-add_own-in-Field : goal.add_within-returns-in_ok-add_own-in-Field
add_within-returns-in_ok-add_own-in-Field t c =
    sets_field c.args.selection.now c.in-Field.field c.as_slice.result.now c.as_slice-in-Field.result.now c.args.sets.now.items c.add_sets.new.sets.items c.add_own.new.sets.items
    c.in-Field.is c.as_slice.ensures c.as_slice-in-Field.ensures c.in_ok-add_sets-in-Field.ensures c.in_ok-add_own-in-Field.ensures

pub add_within-returns-in-Spread : goal.add_within-returns-in-Spread
add_within-returns-in-Spread t c = sets_spread c.args.selection.now c.in-Spread.field-0 c.args.sets.now.items c.in-Spread.is

pub add_within-returns-in_ok-add_sets-in-InlineFragment :
    goal.add_within-returns-in_ok-add_sets-in-InlineFragment
add_within-returns-in_ok-add_sets-in-InlineFragment t c =
    sets_inline c.args.selection.now c.in-InlineFragment.inline c.as_slice-in-InlineFragment.result.now c.args.sets.now.items c.add_sets-in-InlineFragment.new.sets.items
    c.in-InlineFragment.is c.as_slice-in-InlineFragment.ensures c.in_ok-add_sets-in-InlineFragment.ensures
