use Rattle.std.proofs.Common.{arith}
use Rattle.serde_json.specs.View.{view}
use Rattle.gql_steps.specs.Direct.{data_of}
use Rattle.gql_steps.specs.DirectParts.{ScalarsStop}
use Rattle.gql_steps.specs.ValueParts.{items_in}
use Rattle.gql_steps.proofs.Directly.{item_more, item_stops, stops_so}
use Rattle.gql_steps.proofs.direct_items.write_scalars.Goals as goal

pub returns-in_err-write_direct_item-clause-stops : goal.returns-in_err-write_direct_item-clause-stops
returns-in_err-write_direct_item-clause-stops c =
    let inv = c.loop-i.invariant in
    stops_so (ScalarsStop c.args.scalar (items_in c.args.items) c.args.run.now) c.from_residual.result c.in_err-write_direct_item.field-0.0 c.from_residual.ensures.1
    (λ t list. item_stops c.args.scalar t list (items_in c.args.items) c.loop-i.i (view c.item.result.now) (data_of c.in-Some.found) c.args.run.now c.loop-i.run c.write_direct_item.new.run
    (omega (arith, inv.count, c.loop-i-test.true)) c.item.ensures c.in-Some.ensures.value c.in-Some.ensures.present (inv.written t list) c.in_err-write_direct_item.field-0.0 c.in_err-write_direct_item.ensures)

pub loop-i-preserved : goal.loop-i-preserved
loop-i-preserved c =
    let inv = c.loop-i.invariant in
    record {
      count = inv.count;
      written = λ t list. item_more c.args.scalar t list (items_in c.args.items) c.loop-i.i (view c.item.result.now) (data_of c.in-Some.found) c.args.run.now c.loop-i.run c.write_direct_item.new.run
          (omega (arith, inv.count, c.loop-i-test.true)) c.item.ensures c.in-Some.ensures.value c.in-Some.ensures.present (inv.written t list) c.in_ok-write_direct_item.field-0 c.in_ok-write_direct_item.ensures;
    }
