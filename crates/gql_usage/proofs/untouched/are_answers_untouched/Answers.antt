use Rattle.std.proofs.Common.{List, subst}
use Rattle.std.proofs.lemmas.List.{take_all}
use Rattle.gql_reads.specs.Observations.{observed, observed_in}
use Rattle.gql_reads.specs.declared.observation.Answer.{Answer}
use Rattle.gql_usage.specs.Untouched.{AreLeft}
use Rattle.gql_usage.proofs.Left.{left_more, none_left}
use Rattle.gql_usage.proofs.untouched.are_answers_untouched.Goals as goal

pub loop-answer-init : goal.loop-answer-init
loop-answer-init c = none_left c.args.removal.now

pub loop-answer-preserved : goal.loop-answer-preserved
loop-answer-preserved c =
    let r = c.args.removal.now in
    left_more observed r c.args.answers.now c.loop-answer.answer-index c.answer-item.result c.loop-answer-test.true c.answer-item.is c.loop-answer.invariant
    (subst (λ (a : Answer). AreLeft r (observed a)) c.get.ensures (c.is_answer_untouched.ensures c.if-not-is_answer_untouched.false))

pub returns : goal.returns
returns c = λ t. subst (λ (xs : List Answer). AreLeft c.args.removal.now (observed_in xs)) (take_all _ _ c.loop-answer-test.false) c.loop-answer.invariant
