use Rattle.std.proofs.Common.{◌≡◌, List, false, rules, subst}
use Rattle.std.proofs.lemmas.List.{take_all}
use Rattle.gql_reads.specs.Observations.{observed_in}
use Rattle.gql_reads.specs.declared.observation.Answer.{Answer}
use Rattle.gql_pairs.specs.Doubts.{in_doubt}
use Rattle.gql_pairs.specs.declared.doubt.Doubt.TheVariants as doubted
use Rattle.gql_pairs.proofs.Doubting.{Undoubted, undoubted_more}
use Rattle.gql_pairs.proofs.doubt.has_one.Goals as goal

pub loop-answer-preserved : goal.loop-answer-preserved
loop-answer-preserved c =
    let x = c.answer-item.result in
    let here : in_doubt (doubted.Fragments c.args.names.now) x.observation.key ≡ false = search rules in
    undoubted_more c.args.names.now c.args.answers.now c.loop-answer.answer-index x c.loop-answer-test.true c.answer-item.is c.loop-answer.invariant here

pub returns : goal.returns
returns c = λ _. subst (λ (xs : List Answer). Undoubted (doubted.Fragments c.args.names.now) (observed_in xs)) (take_all _ _ c.loop-answer-test.false) c.loop-answer.invariant
