use Rattle.std.proofs.Common.{◌≡◌, ◌≤◌, ◌<◌, ◌∷◌, ◌++◌, [], ◌∙◌, ℕ, ap, get_or, length, subst, sym, take}
use Rattle.std.proofs.lemmas.List.{take_all, take_more}
use Rattle.gql_readers.proofs.Noting.{same_id}
use Rattle.gql_readers.proofs.ids.are_same.Goals as goal

pub loop-i-preserved : goal.loop-i-preserved
loop-i-preserved c =
    let ids = c.args.ids.now in
    let others = c.args.others.now in
    let i = c.loop-i.i in
    let a = c.index-ids-i.result in
    let b = c.index-others-i.result in
    let within : i < length others = subst (λ (n : ℕ). i < n) c.if-ids-others.false c.loop-i-test.true in
    let e : get_or ids i a ≡ get_or others i b = sym c.index-ids-i.is ∙ sym c.get.ensures
    ∙ same_id c.get.result.now c.get-in-loop-i.result.now (sym c.if-not-is_same.ensures) ∙ c.get-in-loop-i.ensures ∙ c.index-others-i.is in
    take_more ids i a c.loop-i-test.true ∙ ap (λ x. take i ids ++ x ∷ []) e ∙ ap (λ zs. zs ++ get_or others i b ∷ []) c.loop-i.invariant ∙ sym (take_more others i b within)

pub returns : goal.returns
returns c = λ t. sym (take_all _ _ c.loop-i-test.false) ∙ c.loop-i.invariant ∙ take_all _ _ (subst (λ (n : ℕ). n ≤ c.loop-i.i) c.if-ids-others.false c.loop-i-test.false)
