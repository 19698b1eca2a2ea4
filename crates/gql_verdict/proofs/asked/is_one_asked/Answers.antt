use Rattle.std.proofs.Common.{◌≡◌, ◌∙◌, Contains, List, false, inl, inr, refl, subst, sym, true}
use Rattle.std.proofs.lemmas.List.{take_all}
use Rattle.gql_readers.specs.Indexes.{Reading}
use Rattle.gql_verdict.specs.Marks.{IsSomeAsked}
use Rattle.gql_verdict.proofs.Seen.{seen_more}
use Rattle.gql_verdict.proofs.asked.is_one_asked.Goals as goal

pub returns-then-is_asked : goal.returns-then-is_asked
returns-then-is_asked c =
    let x = c.entry-item.result in
    let k = c.args.key.now in
    let asked : IsSomeAsked x k = subst (λ (e : Reading). IsSomeAsked e k) c.get.ensures (c.is_asked.ensures.0 c.if-is_asked.true) in
    (λ t. (x, (c.loop-entry.entry-index, c.loop-entry-test.true, sym c.entry-item.is), asked), λ h. refl)

pub loop-entry-preserved : goal.loop-entry-preserved
loop-entry-preserved c = λ e m h.
    let k = c.args.key.now in
    elim (seen_more c.args.entries.now c.loop-entry.entry-index c.entry-item.result c.loop-entry-test.true c.entry-item.is e m) [
      | inl s ↦ c.loop-entry.invariant e s h
      | inr q ↦
          let asked : IsSomeAsked c.get.result.now k = subst (λ (z : Reading). IsSomeAsked z k) (sym (c.get.ensures ∙ q)) h in
          let z : true ≡ false = sym (c.is_asked.ensures.1 asked) ∙ c.if-is_asked.false in cc z
    ]

pub returns : goal.returns
returns c = (
  λ t. let z : false ≡ true = t in cc z,
  λ h. absurd (c.loop-entry.invariant h.0 (subst (λ (es : List Reading). Contains es h.0) (sym (take_all _ _ c.loop-entry-test.false)) h.1) h.2),
)
