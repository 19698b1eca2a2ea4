use Rattle.std.proofs.Common.{refl}
use Rattle.gql_merge.proofs.SpreadParts.{names_all, names_field, names_inline, names_spread_one}
use Rattle.gql_merge.proofs.spread_names.+names.Goals as goal

pub add_name-returns-in-Field : goal.add_name-returns-in-Field
add_name-returns-in-Field t c = names_field c.args.selection.now c.in-Field.field-0 c.args.names.now.items c.in-Field.is

pub add_name-returns-in_ok-push-in-Spread : goal.add_name-returns-in_ok-push-in-Spread
add_name-returns-in_ok-push-in-Spread t c =
    names_spread_one c.args.selection.now c.in-Spread.spread c.args.names.now.items c.push.new.self.items _ c.in-Spread.is refl c.in_ok-push-in-Spread.ensures.items

pub add_name-returns-in_ok-add_names-in-InlineFragment :
    goal.add_name-returns-in_ok-add_names-in-InlineFragment
add_name-returns-in_ok-add_names-in-InlineFragment t c =
    names_inline c.args.selection.now c.in-InlineFragment.inline c.as_slice.result.now c.args.names.now.items c.add_names.new.names.items
    c.in-InlineFragment.is c.as_slice.ensures c.in_ok-add_names-in-InlineFragment.ensures

pub add_names-returns : goal.add_names-returns
add_names-returns t c = names_all c.args.set.now c.loop-selection.selection-index c.args.names.now.items c.loop-selection.names.items
    c.loop-selection-test.false c.loop-selection.invariant
