use Rattle.std.proofs.Common.{◌∙◌, List, subst}
use Rattle.gql_reads.specs.Observations.{observed_in}
use Rattle.gql_reads.specs.Readings.{seen_in}
use Rattle.gql_reads.specs.Records.{Kept}
use Rattle.gql_reads.specs.declared.observation.Answer.{Answer}
use Rattle.gql_usage.specs.Untouched.{AreLeft}
use Rattle.gql_usage.proofs.Left.{left_both}
use Rattle.gql_usage.proofs.untouched.is_untouched.Goals as goal

pub returns-then-are_answers_untouched : goal.returns-then-are_answers_untouched
returns-then-are_answers_untouched c = λ t. left_both c.args.removal.now (observed_in c.args.reading.now.own.record) (seen_in c.args.reading.now.parts.items)
    (subst (λ (xs : List Answer). AreLeft c.args.removal.now (observed_in xs)) (c.answers.ensures ∙ c.get.ensures) (c.are_answers_untouched.ensures c.if-are_answers_untouched.true))
    (subst (λ (ps : List Kept). AreLeft c.args.removal.now (seen_in ps)) c.as_slice.ensures.value (c.are_parts_untouched.ensures t))
