use Rattle.std.proofs.Common.{◌≡◌, ◌∷◌, ◌++◌, ◌∙◌, ◌+◌, ap, refl, sym, subst, drop}
use Rattle.std.specs.Ordering.{is_gt}
use Rattle.std.proofs.lemmas.List.{drop_more}
use Rattle.std.proofs.lemmas.List.Kept.{AllPairs-filter}
use Rattle.std.specs.declared.cmp.Ordering.TheVariants.{Less}
use Rattle.gql_ast.specs.declared.definition.DefinitionId.{DefinitionId}
use Rattle.gql_readers.specs.Merged.{above, below, edited, here, itself, one_if}
use Rattle.gql_readers.specs.Orders.{AreInOrder, id_order}
use Rattle.gql_readers.proofs.Splitting.{merged_more}
use Rattle.gql_readers.proofs.ids.edit.Goals as goal

pub loop-id-preserved : goal.loop-id-preserved
loop-id-preserved c =
    let id = c.id-item.result in
    let i = c.loop-id.id-index in
    let rest = c.loop-id.rest.now in
    let before = c.split.ensures.before ∙ ap (λ j. below id_order itself j rest) c.get.ensures in
    let after = c.split.ensures.after ∙ ap (λ j. above id_order itself j rest) c.get.ensures in
    let next : drop i c.args.changed.now ≡ id ∷ drop (i + 1) c.args.changed.now = drop_more c.args.changed.now i id c.loop-id-test.true ∙ ap (λ x. x ∷ drop (i + 1) c.args.changed.now) (sym c.id-item.is) in
    record {
      order = subst (λ ids. AreInOrder ids) (sym after) (AllPairs-filter (λ (a b : DefinitionId). id_order a b ≡ Less) (λ x. is_gt (id_order x id)) rest c.loop-id.invariant.order);
      so_far = ap (λ zs. zs ++ edited c.args.comes c.split.result.1.now (drop (i + 1) c.args.changed.now)) (c.in_ok-add_if.ensures ∙ ap (λ zs. zs ++ one_if c.args.comes (here id_order itself id rest) id) c.in_ok-add_handles.ensures)
          ∙ merged_more id_order itself itself (one_if c.args.comes) c.loop-id.all.items rest c.split.result.0.now c.split.result.1.now (one_if c.args.comes (here id_order itself id rest) id) id (drop (i + 1) c.args.changed.now) (drop i c.args.changed.now)
          next before after refl
          ∙ c.loop-id.invariant.so_far;
    }
