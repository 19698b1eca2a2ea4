use Rattle.std.proofs.Common.{◌≡◌, ◌<◌, ◌++◌, ◌∷◌, ◌∙◌, [], ℕ, List, ap, subst, sym, length, map, take, rules, false, true, Bor}
use Rattle.std.proofs.lemmas.Slice.Eq.{bytes_eq-Decides}
use Rattle.std.specs.Cmp.Lexicographic.{same_text}
use Rattle.gql_ast.specs.declared.text.Name.{Name}
use Rattle.gql_verdict.proofs.Adding.{next}
use Rattle.gql_verdict.proofs.SameLists.{same_at}
use Rattle.gql_verdict.proofs.spreads.are_same.Goals as goal

pub loop-i-preserved : goal.loop-i-preserved
loop-i-preserved c =
    let read = λ (n : Bor Name). n.now.text in
    let one = λ (n : List ℕ). n ∷ [] in
    let i = c.loop-i.i in
    let x = c.index-names-i.result in
    let y = c.index-others-i.result in
    let yes : c.is_same_name.result ≡ true = search rules in
    let here : x.now.text ≡ y.now.text =
    sym c.as_str.ensures ∙ same_text c.as_str.result.now c.as_str-in-loop-i.result.now (sym (sym c.is_same_name.ensures ∙ yes)) ∙ c.as_str-in-loop-i.ensures in
    let within : i < length c.args.others.now = search rules in
    next one read c.args.names.now i x c.loop-i-test.true (sym c.index-names-i.is)
    ∙ ap (λ l. l ++ read x ∷ []) c.loop-i.invariant
    ∙ ap (λ t. map read (take i c.args.others.now) ++ t ∷ []) here
    ∙ sym (next one read c.args.others.now i y within (sym c.index-others-i.is))

pub returns-then-not-is_same_name : goal.returns-then-not-is_same_name
returns-then-not-is_same_name c =
    let read = λ (n : Bor Name). n.now.text in
    let i = c.loop-i.i in
    let x = c.index-names-i.result in
    let y = c.index-others-i.result in
    let within : i < length c.args.others.now = subst (λ (n : ℕ). i < n) c.if-names-others.false c.loop-i-test.true in (
      λ t. let z : false ≡ true = t in cc z,
      λ same.
          let here : read x ≡ read y =
          same_at read c.args.names.now c.args.others.now i x y c.loop-i-test.true (sym c.index-names-i.is) within (sym c.index-others-i.is) same in
          let told : c.is_same_name.result ≡ true = c.is_same_name.ensures
          ∙ (bytes_eq-Decides c.as_str.result.now c.as_str-in-loop-i.result.now).1 (c.as_str.ensures ∙ here ∙ sym c.as_str-in-loop-i.ensures) in
          let z : true ≡ false = sym told ∙ c.if-not-is_same_name.true in cc z,
    )
