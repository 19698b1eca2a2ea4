use Rattle.std.proofs.Common.{◌++◌, ◌∙◌, sym, ap, take, get_or}
use Rattle.std.specs.Option.{option_copied}
use Rattle.gql_render.specs.Picking.{listed, picked}
use Rattle.gql_render.proofs.Choosing.{found_is, picked_more}
use Rattle.gql_render.proofs.picking.picked.Goals as goal

pub loop-place-preserved : goal.loop-place-preserved
loop-place-preserved g c =
    let items = c.args.items.now in
    let places = c.args.places.now in
    let i = c.loop-place.place-index in
    c.in_ok-push_some.ensures ∙ ap (λ xs. xs ++ listed (option_copied c.get.result)) c.loop-place.invariant
    ∙ ap (λ o. picked items (take i places) ++ listed o) (found_is c.get.result items (get_or places i 0) c.get.ensures.lookup.3)
    ∙ sym (picked_more items places i c.loop-place-test.true)
