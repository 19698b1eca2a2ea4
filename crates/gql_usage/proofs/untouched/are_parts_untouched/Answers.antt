use Rattle.std.proofs.Common.{◌∙◌, List, subst}
use Rattle.std.proofs.lemmas.List.{take_all}
use Rattle.gql_reads.specs.Observations.{observed_in}
use Rattle.gql_reads.specs.Readings.{seen_in}
use Rattle.gql_reads.specs.Records.{Kept}
use Rattle.gql_reads.specs.declared.observation.Answer.{Answer}
use Rattle.gql_usage.specs.Untouched.{AreLeft}
use Rattle.gql_usage.proofs.Left.{left_more, none_left}
use Rattle.gql_usage.proofs.untouched.are_parts_untouched.Goals as goal

pub loop-part-init : goal.loop-part-init
loop-part-init c = none_left c.args.removal.now

pub loop-part-preserved : goal.loop-part-preserved
loop-part-preserved c =
    let r = c.args.removal.now in
    left_more (λ (p : Kept). observed_in p.seen) r c.args.parts.now c.loop-part.part-index c.part-item.result c.loop-part-test.true c.part-item.is c.loop-part.invariant
    (subst (λ (xs : List Answer). AreLeft r (observed_in xs)) (c.answers.ensures ∙ c.get.ensures ∙ c.seen.ensures.value) (c.are_answers_untouched.ensures c.if-not-are_answers_untouched.false))

pub returns : goal.returns
returns c = λ t. subst (λ (ps : List Kept). AreLeft c.args.removal.now (seen_in ps)) (take_all _ _ c.loop-part-test.false) c.loop-part.invariant
