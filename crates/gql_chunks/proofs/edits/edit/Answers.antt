use Rattle.std.proofs.Common.{◌≡◌, ◌∷◌, ◌++◌, ◌∙◌, ◌+◌, ap, sym, subst, drop}
use Rattle.std.specs.Ordering.{is_gt}
use Rattle.std.proofs.lemmas.List.{drop_more}
use Rattle.std.proofs.lemmas.List.Kept.{AllPairs-filter}
use Rattle.std.specs.declared.cmp.Ordering.TheVariants.{Less}
use Rattle.gql_chunks.specs.Edits.{above, below, edited, one_if}
use Rattle.gql_chunks.specs.Lists.{AreInOrder}
use Rattle.gql_chunks.proofs.Splitting.{edited_more}
use Rattle.gql_chunks.proofs.edits.edit.Goals as goal

pub loop-item-preserved : goal.loop-item-preserved
loop-item-preserved g c =
    let order = g.T.HasOrder.order in
    let item = c.item-item.result in
    let i = c.loop-item.item-index in
    let rest = c.loop-item.rest.now in
    let comes = c.args.comes in
    let before = c.split.ensures.before ∙ ap (λ j. below order j rest) c.get.ensures in
    let after = c.split.ensures.after ∙ ap (λ j. above order j rest) c.get.ensures in
    let next : drop i c.args.changed.now ≡ item ∷ drop (i + 1) c.args.changed.now = drop_more c.args.changed.now i item c.loop-item-test.true ∙ ap (λ x. x ∷ drop (i + 1) c.args.changed.now) (sym c.item-item.is) in
    record {
      sorted = subst (λ zs. AreInOrder order zs) (sym after) (AllPairs-filter (λ a b. order a b ≡ Less) (λ x. is_gt (order x item)) rest c.loop-item.invariant.sorted);
      so_far = ap (λ zs. zs ++ edited order comes c.split.result.1.now (drop (i + 1) c.args.changed.now)) (c.in_ok-add_if.ensures ∙ ap (λ zs. zs ++ one_if comes item) c.in_ok-add_handles.ensures)
          ∙ edited_more order comes c.loop-item.all.items rest c.split.result.0.now c.split.result.1.now item (drop (i + 1) c.args.changed.now) (drop i c.args.changed.now) next before after
          ∙ c.loop-item.invariant.so_far;
    }
