use Rattle.std.specs.Prelude.{MatchBool}
use Rattle.std.proofs.Common.{◌≡◌, ◌∙◌, List, false, subst, sym, true}
use Rattle.gql_facts.specs.Worlds.{Facts}
use Rattle.gql_reads.specs.Observations.{Hold, IsBroken, about_all}
use Rattle.gql_reads.specs.declared.observation.TypeAnswers.{TypeAnswers}
use Rattle.gql_reads.proofs.Held.{answer_broken, answer_either}
use Rattle.gql_reads.proofs.holds.answer_holds.Goals as goal

pub returns-then-not-is_same-clause-answer : goal.returns-then-not-is_same-clause-answer
returns-then-not-is_same-clause-answer g c =
    answer_broken (g.W.World.facts c.args.world.now) c.args.answer.now
    (λ h. let z : true ≡ false = sym (c.in_ok-is_same.ensures.answer.1 h) ∙ c.if-not-is_same.true in cc z)

pub returns-clause-answer : goal.returns-clause-answer
returns-clause-answer g c =
    let F = g.W.World.facts c.args.world.now in
    let a = c.args.answer.now in
    let types : MatchBool c.in_ok-hold.hold (Hold F (about_all a.types)) (IsBroken F (about_all a.types)) =
    subst (λ (ts : List TypeAnswers). MatchBool c.in_ok-hold.hold (Hold F (about_all ts)) (IsBroken F (about_all ts))) c.as_slice.ensures
    (subst (λ (G : Facts). MatchBool c.in_ok-hold.hold (Hold G (about_all c.as_slice.result.now)) (IsBroken G (about_all c.as_slice.result.now))) c.is_answer.ensures.facts c.in_ok-hold.ensures.answer) in
    answer_either F a c.in_ok-hold.hold (c.in_ok-is_same.ensures.answer.0 c.if-not-is_same.false) types
