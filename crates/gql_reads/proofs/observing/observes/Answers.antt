use Rattle.std.proofs.Common.{◌≡◌, ◌∙◌, Contains, List, false, inl, inr, refl, subst, sym, true}
use Rattle.gql_facts.specs.ListMembers.{Contains-cases}
use Rattle.gql_reads.specs.Observations.{about_all, keys_of, observed}
use Rattle.gql_reads.specs.declared.observation.TypeAnswers.{TypeAnswers}
use Rattle.gql_reads.proofs.ObservedKeys.{answer_itself, answer_type}
use Rattle.gql_reads.proofs.observing.observes.Goals as goal

pub returns-then-same : goal.returns-then-same
returns-then-same c =
    let a = c.args.answer.now in
    (λ t. subst (Contains (keys_of (observed a))) (c.same.ensures.0 c.if-same.true) (answer_itself a), λ h. refl)

pub returns : goal.returns
returns c =
    let a = c.args.answer.now in
    let k = c.args.key.now in (
      λ t. answer_type a k (subst (λ (ts : List TypeAnswers). Contains (keys_of (about_all ts)) k) c.as_slice.ensures (c.is_about_one.ensures.0 t)),
      λ h. elim (Contains-cases k a.observation.key (keys_of (about_all a.types)) h) [
        | inl e ↦ let z : true ≡ false = sym (c.same.ensures.1 (sym e)) ∙ c.if-same.false in cc z
        | inr r ↦ c.is_about_one.ensures.1 (subst (λ (ts : List TypeAnswers). Contains (keys_of (about_all ts)) k) (sym c.as_slice.ensures) r)
      ],
    )
