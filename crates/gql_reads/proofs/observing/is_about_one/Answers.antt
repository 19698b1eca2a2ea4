use Rattle.std.proofs.Common.{◌≡◌, ◌∙◌, Contains, List, false, inl, inr, refl, subst, sym, true}
use Rattle.std.proofs.lemmas.List.{take_all}
use Rattle.gql_facts.specs.Reads.{type_reads}
use Rattle.gql_reads.specs.Observations.{about_all, keys_of}
use Rattle.gql_reads.specs.declared.observation.TypeAnswers.{TypeAnswers}
use Rattle.gql_reads.proofs.ObservedKeys.{observed_type, type_observed}
use Rattle.gql_reads.proofs.Takes.{seen_more}
use Rattle.gql_reads.proofs.observing.is_about_one.Goals as goal

pub returns-then-is_about : goal.returns-then-is_about
returns-then-is_about c =
    let x = c.of_type-item.result in
    let k = c.args.key.now in
    let read : Contains (type_reads x.name) k = subst (λ (t : TypeAnswers). Contains (type_reads t.name) k) c.get.ensures (c.is_about.ensures.0 c.if-is_about.true) in
    (λ t. type_observed c.args.types.now x k (c.loop-of_type.of_type-index, c.loop-of_type-test.true, sym c.of_type-item.is) read, λ h. refl)

pub loop-of_type-preserved : goal.loop-of_type-preserved
loop-of_type-preserved c = λ h.
    let xs = c.args.types.now in
    let i = c.loop-of_type.of_type-index in
    let x = c.of_type-item.result in
    let k = c.args.key.now in
    let m = observed_type _ k h in
    elim (seen_more xs i x c.loop-of_type-test.true c.of_type-item.is m.0 m.1) [
      | inl s ↦ c.loop-of_type.invariant (type_observed _ m.0 k s m.2)
      | inr e ↦
          let read : Contains (type_reads c.get.result.now.name) k = subst (λ (t : TypeAnswers). Contains (type_reads t.name) k) (sym (c.get.ensures ∙ e)) m.2 in
          let z : true ≡ false = sym (c.is_about.ensures.1 read) ∙ c.if-is_about.false in cc z
    ]

pub returns : goal.returns
returns c = (
  λ t. let z : false ≡ true = t in cc z,
  λ h. absurd (c.loop-of_type.invariant (subst (λ (xs : List TypeAnswers). Contains (keys_of (about_all xs)) c.args.key.now) (sym (take_all _ _ c.loop-of_type-test.false)) h)),
)
