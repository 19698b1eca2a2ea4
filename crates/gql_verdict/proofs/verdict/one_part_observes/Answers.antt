use Rattle.std.proofs.Common.{◌≡◌, ◌∙◌, Contains, List, false, inl, inr, refl, subst, sym, true}
use Rattle.std.proofs.lemmas.List.{take_all}
use Rattle.gql_reads.specs.Observations.{keys_of, observed_in}
use Rattle.gql_reads.specs.Readings.{seen_in}
use Rattle.gql_reads.specs.Records.{Kept}
use Rattle.gql_reads.specs.declared.observation.Answer.{Answer}
use Rattle.gql_verdict.proofs.Seen.{seen_more}
use Rattle.gql_verdict.proofs.SeenKeys.{observed_part, part_observed}
use Rattle.gql_verdict.proofs.verdict.one_part_observes.Goals as goal

pub returns-then-one_observes : goal.returns-then-one_observes
returns-then-one_observes c =
    let x = c.part-item.result in
    let k = c.args.key.now in
    let read : Contains (keys_of (observed_in x.seen)) k = subst (λ (xs : List Answer). Contains (keys_of (observed_in xs)) k) (c.answers.ensures ∙ c.get.ensures ∙ c.seen.ensures.value) (c.one_observes.ensures.0 c.if-one_observes.true) in
    (λ t. part_observed c.args.parts.now x k (c.loop-part.part-index, c.loop-part-test.true, sym c.part-item.is) read, λ h. refl)

pub loop-part-preserved : goal.loop-part-preserved
loop-part-preserved c = λ h.
    let k = c.args.key.now in
    let m = observed_part _ k h in
    elim (seen_more c.args.parts.now c.loop-part.part-index c.part-item.result c.loop-part-test.true c.part-item.is m.0 m.1) [
      | inl s ↦ c.loop-part.invariant (part_observed _ m.0 k s m.2)
      | inr q ↦
          let read : Contains (keys_of (observed_in c.part-item.result.seen)) k = subst (λ (p : Kept). Contains (keys_of (observed_in p.seen)) k) (sym q) m.2 in
          let seen = subst (λ (xs : List Answer). Contains (keys_of (observed_in xs)) k) (sym (c.answers.ensures ∙ c.get.ensures ∙ c.seen.ensures.value)) read in
          let z : true ≡ false = sym (c.one_observes.ensures.1 seen) ∙ c.if-one_observes.false in cc z
    ]

pub returns : goal.returns
returns c = (
  λ t. let z : false ≡ true = t in cc z,
  λ h. absurd (c.loop-part.invariant (subst (λ (ps : List Kept). Contains (keys_of (seen_in ps)) c.args.key.now) (sym (take_all _ _ c.loop-part-test.false)) h)),
)
