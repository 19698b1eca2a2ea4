use Rattle.gql_merge.specs.Light.{IsSettled}
use Rattle.gql_merge.proofs.CleanNames.{each_all, each_more}
use Rattle.gql_merge.proofs.clean.are_settled.Goals as goal

pub loop-set-preserved : goal.loop-set-preserved
loop-set-preserved c = each_more (IsSettled c.args.clean.now) c.args.sets.now c.loop-set.set-index c.set-item.result c.loop-set-test.true c.set-item.is c.loop-set.invariant
    (rw c.as_slice.ensures.value at c.has_names.ensures c.if-not-has_names.false)

pub returns : goal.returns
returns c = λ t. each_all (IsSettled c.args.clean.now) c.args.sets.now c.loop-set.set-index c.loop-set-test.false c.loop-set.invariant
