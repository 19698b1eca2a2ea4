use Rattle.std.proofs.Common.{◌≡◌, List, false, rules, subst}
use Rattle.std.proofs.lemmas.List.{take_all}
use Rattle.gql_reads.specs.Observations.{about_all}
use Rattle.gql_reads.specs.declared.observation.TypeAnswers.{TypeAnswers}
use Rattle.gql_pairs.specs.Doubts.{is_one}
use Rattle.gql_pairs.specs.declared.doubt.Doubt.TheVariants as doubted
use Rattle.gql_pairs.proofs.Doubting.{Undoubted, types_more}
use Rattle.gql_pairs.proofs.doubt.have_one.Goals as goal

pub loop-of_type-preserved : goal.loop-of_type-preserved
loop-of_type-preserved c =
    let x = c.of_type-item.result in
    let other : is_one c.args.names.now x.name ≡ false = search rules in
    types_more c.args.names.now c.args.types.now c.loop-of_type.of_type-index x c.loop-of_type-test.true c.of_type-item.is c.loop-of_type.invariant other

pub returns : goal.returns
returns c = λ _. subst (λ (xs : List TypeAnswers). Undoubted (doubted.Types c.args.names.now) (about_all xs)) (take_all _ _ c.loop-of_type-test.false) c.loop-of_type.invariant
