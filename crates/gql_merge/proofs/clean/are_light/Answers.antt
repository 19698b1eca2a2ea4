use Rattle.gql_merge.specs.Light.{IsLight}
use Rattle.gql_merge.proofs.CleanNames.{each_all, each_more}
use Rattle.gql_merge.proofs.clean.are_light.Goals as goal

pub loop-set-preserved : goal.loop-set-preserved
loop-set-preserved c = each_more (IsLight c.args.clean.now) c.args.sets.now c.loop-set.set-index c.set-item.result c.loop-set-test.true c.set-item.is c.loop-set.invariant (c.is_light.ensures c.if-not-is_light.false)

pub returns : goal.returns
returns c = λ t. each_all (IsLight c.args.clean.now) c.args.sets.now c.loop-set.set-index c.loop-set-test.false c.loop-set.invariant
