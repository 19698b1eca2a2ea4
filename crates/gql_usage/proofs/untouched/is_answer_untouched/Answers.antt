use Rattle.std.proofs.Common.{List, subst}
use Rattle.gql_reads.specs.Observations.{about_all}
use Rattle.gql_reads.specs.declared.observation.TypeAnswers.{TypeAnswers}
use Rattle.gql_usage.specs.Untouched.{AreLeft}
use Rattle.gql_usage.proofs.Left.{left_first}
use Rattle.gql_usage.proofs.untouched.is_answer_untouched.Goals as goal

pub returns-then-is_spared : goal.returns-then-is_spared
returns-then-is_spared c = λ t. left_first c.args.removal.now c.args.answer.now.observation (about_all c.args.answer.now.types) (c.is_spared.ensures c.if-is_spared.true)
    (subst (λ (xs : List TypeAnswers). AreLeft c.args.removal.now (about_all xs)) c.as_slice.ensures (c.are_types_untouched.ensures t))
