use Rattle.std.proofs.Common.{◌≡◌, ◌<◌, ◌∙◌, ℕ, length, subst, sym, false, true}
use Rattle.gql_verdict.specs.NameViews.{view_of}
use Rattle.gql_verdict.proofs.SameLists.{same_at}
use Rattle.gql_verdict.proofs.same_names.look_alike.Goals as goal

pub returns-then-not-alike : goal.returns-then-not-alike
returns-then-not-alike c =
    let definitions = c.args.definitions.now in
    let others = c.args.others.now in
    let i = c.loop-i.i in
    let x = c.index-definitions-i.result in
    let y = c.index-others-i.result in
    let within : i < length others = subst (λ (n : ℕ). i < n) c.if-definitions-others.false c.loop-i-test.true in (
      λ t. let z : false ≡ true = t in cc z,
      λ same.
          let here : view_of x ≡ view_of y = same_at view_of definitions others i x y c.loop-i-test.true (sym c.index-definitions-i.is) within (sym c.index-others-i.is) same in
          let z : true ≡ false = sym (c.in_ok-alike.ensures.1 here) ∙ c.if-not-alike.true in cc z,
    )
