use Rattle.std.proofs.Common.{List, subst}
use Rattle.std.proofs.lemmas.List.{take_all}
use Rattle.gql_reads.specs.Observations.{about, about_all}
use Rattle.gql_reads.specs.declared.observation.TypeAnswers.{TypeAnswers}
use Rattle.gql_usage.specs.Untouched.{AreLeft}
use Rattle.gql_usage.proofs.Left.{left_more, none_left}
use Rattle.gql_usage.proofs.untouched.are_types_untouched.Goals as goal

pub loop-of_type-init : goal.loop-of_type-init
loop-of_type-init c = none_left c.args.removal.now

pub loop-of_type-preserved : goal.loop-of_type-preserved
loop-of_type-preserved c =
    let r = c.args.removal.now in
    left_more about r c.args.types.now c.loop-of_type.of_type-index c.of_type-item.result c.loop-of_type-test.true c.of_type-item.is c.loop-of_type.invariant
    (subst (λ (t : TypeAnswers). AreLeft r (about t)) c.get.ensures (c.is_type_untouched.ensures c.if-not-is_type_untouched.false))

pub returns : goal.returns
returns c = λ t. subst (λ (xs : List TypeAnswers). AreLeft c.args.removal.now (about_all xs)) (take_all _ _ c.loop-of_type-test.false) c.loop-of_type.invariant
