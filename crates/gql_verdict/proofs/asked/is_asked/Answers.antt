use Rattle.std.proofs.Common.{◌≡◌, ◌∙◌, Contains, false, subst, sym, true}
use Rattle.gql_reads.specs.Observations.{keys_of, observed}
use Rattle.gql_reads.specs.declared.observation.Answer.{Answer}
use Rattle.gql_verdict.proofs.asked.is_asked.Goals as goal

pub returns-then-is_empty : goal.returns-then-is_empty
returns-then-is_empty c = (
  λ t. let z : false ≡ true = t in cc z,
  λ h. absurd (h.0 (sym c.readers.ensures ∙ c.is_empty.ensures.0 c.if-is_empty.true)),
)

pub returns : goal.returns
returns c =
    let same : c.get.result.now ≡ c.args.entry.now.answer = c.get.ensures ∙ c.answer.ensures in
    let k = c.args.key.now in (
      λ t. (
        λ none. let z : true ≡ false = sym (c.is_empty.ensures.1 (c.readers.ensures ∙ none)) ∙ c.if-is_empty.false in cc z,
        subst (λ (a : Answer). Contains (keys_of (observed a)) k) same (c.observes.ensures.0 t),
      ),
      λ h. c.observes.ensures.1 (subst (λ (a : Answer). Contains (keys_of (observed a)) k) (sym same) h.1),
    )
