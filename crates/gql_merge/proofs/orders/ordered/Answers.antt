use Rattle.std.proofs.Common.{◌∙◌, arith, sym}
use Rattle.gql_merge.proofs.Ordered.{ordered_step}
use Rattle.gql_merge.proofs.orders.ordered.Goals as goal

pub loop-number-preserved : goal.loop-number-preserved
loop-number-preserved c =
    ordered_step c.args.texts.now c.loop-number.number c.index-texts-number.result c.in_ok-copy.field-0 c.loop-number.set.entries _
    (omega (arith, c.loop-number-test.true)) (sym c.index-texts-number.is) c.in_ok-copy.ensures c.in_ok-insert.ensures.entries
    ∙ c.loop-number.invariant
