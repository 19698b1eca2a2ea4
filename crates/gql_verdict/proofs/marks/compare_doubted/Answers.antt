use Rattle.std.proofs.Common.{◌≡◌, ◌∙◌, Contains, false, rules, subst, sym, true}
use Rattle.gql_pairs.specs.Doubts.{in_doubt}
use Rattle.gql_reads.specs.Observations.{observed}
use Rattle.gql_verdict.proofs.marks.compare_doubted.Goals as goal

pub returns-then-not-is_of_answer-clause-compared : goal.returns-then-not-is_of_answer-clause-compared
returns-then-not-is_of_answer-clause-compared g c = λ o m y.
    let no : c.is_of_answer.result ≡ false = search rules in
    let same : c.get.result.now ≡ c.args.entry.now.answer = search rules in
    let none : in_doubt c.args.doubt.now o.key ≡ false = c.is_of_answer.ensures no o (subst (λ a. Contains (observed a) o) (sym same) m) in
    absurd (let z : true ≡ false = sym y ∙ none in cc z)
