use Rattle.std.proofs.Common.{◌≡◌, ◌∙◌, Contains, List, false, inl, inr, refl, subst, sym, true}
use Rattle.gql_reads.specs.Observations.{keys_of, observed_in}
use Rattle.gql_reads.specs.Readings.{seen_in}
use Rattle.gql_reads.specs.Records.{Kept}
use Rattle.gql_reads.specs.declared.observation.Answer.{Answer}
use Rattle.gql_reads.specs.declared.observation.Observation.{Observation}
use Rattle.gql_verdict.proofs.SeenKeys.{key_either, key_left, key_right}
use Rattle.gql_verdict.proofs.verdict.Verdict.observes.Goals as goal

pub returns-then-one_observes : goal.returns-then-one_observes
returns-then-one_observes c =
    let r = c.reading-reading.result.now in
    let k = c.args.key.now in
    let own : Contains (keys_of (observed_in r.own.record)) k = subst (λ (xs : List Answer). Contains (keys_of (observed_in xs)) k) (c.answers.ensures ∙ c.get.ensures) (c.one_observes.ensures.0 c.if-one_observes.true) in
    (λ t. subst (λ (os : List Observation). Contains (keys_of os) k) c.reading-reading.ensures.flat (key_left (observed_in r.own.record) (seen_in r.parts.items) k own), λ h. refl)

pub returns : goal.returns
returns c =
    let r = c.reading-reading.result.now in
    let k = c.args.key.now in (
      λ t. subst (λ (os : List Observation). Contains (keys_of os) k) c.reading-reading.ensures.flat
          (key_right (observed_in r.own.record) (seen_in r.parts.items) k (subst (λ (ps : List Kept). Contains (keys_of (seen_in ps)) k) c.as_slice.ensures.value (c.one_part_observes.ensures.0 t))),
      λ h. elim (key_either (observed_in r.own.record) (seen_in r.parts.items) k (subst (λ (os : List Observation). Contains (keys_of os) k) (sym c.reading-reading.ensures.flat) h)) [
        | inl o ↦
            let own = subst (λ (xs : List Answer). Contains (keys_of (observed_in xs)) k) (sym (c.answers.ensures ∙ c.get.ensures)) o in
            let z : true ≡ false = sym (c.one_observes.ensures.1 own) ∙ c.if-one_observes.false in cc z
        | inr p ↦ c.one_part_observes.ensures.1 (subst (λ (ps : List Kept). Contains (keys_of (seen_in ps)) k) (sym c.as_slice.ensures.value) p)
      ],
    )
