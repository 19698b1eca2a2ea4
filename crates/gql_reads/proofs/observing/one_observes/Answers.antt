use Rattle.std.proofs.Common.{◌≡◌, ◌∙◌, Contains, List, false, inl, inr, refl, subst, sym, true}
use Rattle.std.proofs.lemmas.List.{take_all}
use Rattle.gql_reads.specs.Observations.{keys_of, observed, observed_in}
use Rattle.gql_reads.specs.declared.observation.Answer.{Answer}
use Rattle.gql_reads.proofs.ObservedKeys.{answer_observed, observed_answer}
use Rattle.gql_reads.proofs.Takes.{seen_more}
use Rattle.gql_reads.proofs.observing.one_observes.Goals as goal

pub returns-then-observes : goal.returns-then-observes
returns-then-observes c =
    let x = c.answer-item.result in
    let k = c.args.key.now in
    let read : Contains (keys_of (observed x)) k = subst (λ (a : Answer). Contains (keys_of (observed a)) k) c.get.ensures (c.observes.ensures.0 c.if-observes.true) in
    (λ t. answer_observed c.args.answers.now x k (c.loop-answer.answer-index, c.loop-answer-test.true, sym c.answer-item.is) read, λ h. refl)

pub loop-answer-preserved : goal.loop-answer-preserved
loop-answer-preserved c = λ h.
    let xs = c.args.answers.now in
    let i = c.loop-answer.answer-index in
    let x = c.answer-item.result in
    let k = c.args.key.now in
    let m = observed_answer _ k h in
    elim (seen_more xs i x c.loop-answer-test.true c.answer-item.is m.0 m.1) [
      | inl s ↦ c.loop-answer.invariant (answer_observed _ m.0 k s m.2)
      | inr e ↦
          let read : Contains (keys_of (observed c.get.result.now)) k = subst (λ (a : Answer). Contains (keys_of (observed a)) k) (sym (c.get.ensures ∙ e)) m.2 in
          let z : true ≡ false = sym (c.observes.ensures.1 read) ∙ c.if-observes.false in cc z
    ]

pub returns : goal.returns
returns c = (
  λ t. let z : false ≡ true = t in cc z,
  λ h. absurd (c.loop-answer.invariant (subst (λ (xs : List Answer). Contains (keys_of (observed_in xs)) c.args.key.now) (sym (take_all _ _ c.loop-answer-test.false)) h)),
)
