use Rattle.std.proofs.Common.{arith}
use Rattle.gql_report.proofs.Ordered.{all_below, one_more}
use Rattle.gql_report.proofs.report.is_ordered.Goals as goal

pub loop-i-preserved : goal.loop-i-preserved
loop-i-preserved c =
    one_more c.args.all.now c.loop-i.i c.index-all-i.result c.index-all-i-in-loop-i.result c.cmp.result c.ne.result
    c.loop-i.auto.i c.loop-i-test.true c.index-all-i.is c.index-all-i-in-loop-i.is c.cmp.ensures c.ne.ensures c.if-ne.false c.loop-i.invariant

pub returns : goal.returns
returns c = λ yes. all_below c.args.all.now (λ k d lt. c.loop-i.invariant k d (omega (arith, lt, c.loop-i-test.false)))
