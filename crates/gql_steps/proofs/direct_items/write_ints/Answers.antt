use Rattle.std.proofs.Common.{arith, rules}
use Rattle.serde_json.specs.View.{view}
use Rattle.gql_steps.specs.JsonText.{json_text}
use Rattle.gql_steps.specs.Parts.{after_comma, counted, plain}
use Rattle.gql_steps.specs.States.{Done}
use Rattle.gql_inputs.specs.declared.scalar.Scalar.TheVariants.{Int as TheInt}
use Rattle.serde_json.specs.Data.{number}
use Rattle.serde_json.specs.Find.{of_integer}
use Rattle.gql_steps.specs.DirectParts.{ScalarsStop}
use Rattle.gql_steps.specs.ValueParts.{items_in}
use Rattle.gql_steps.proofs.Completing.{int_present}
use Rattle.gql_steps.proofs.Directly.{item_more, item_stops, stops_so}
use Rattle.gql_steps.proofs.direct_items.write_ints.Goals as goal

pub returns-in_err-write_whole_item-clause-stops : goal.returns-in_err-write_whole_item-clause-stops
returns-in_err-write_whole_item-clause-stops c =
    let inv = c.loop-i.invariant in
    stops_so (ScalarsStop TheInt (items_in c.args.items) c.args.run.now) c.from_residual.result c.in_err-write_whole_item.field-0.0 c.from_residual.ensures.1
    (λ t list. item_stops TheInt t list (items_in c.args.items) c.loop-i.i (view c.item.result.now) (number (of_integer c.in-Some.whole)) c.args.run.now c.loop-i.run c.write_whole_item.new.run
    (omega (arith, inv.count, c.loop-i-test.true)) c.item.ensures c.in-Some.ensures (int_present (view c.item.result.now) (number (of_integer c.in-Some.whole)) c.in-Some.ensures) (inv.written t list) c.in_err-write_whole_item.field-0.0 c.in_err-write_whole_item.ensures)

pub loop-i-preserved : goal.loop-i-preserved
loop-i-preserved c =
    let inv = c.loop-i.invariant in
    let text = json_text (number (of_integer c.in-Some.whole)) in
    let done : Done (after_comma c.loop-i.i (counted (plain text))) c.in_ok-write_whole_item.field-0 c.loop-i.run c.write_whole_item.new.run = search rules in
    record {
      count = inv.count;
      written = λ t list. item_more TheInt t list (items_in c.args.items) c.loop-i.i (view c.item.result.now) (number (of_integer c.in-Some.whole)) c.args.run.now c.loop-i.run c.write_whole_item.new.run
          (omega (arith, inv.count, c.loop-i-test.true)) c.item.ensures c.in-Some.ensures (int_present (view c.item.result.now) (number (of_integer c.in-Some.whole)) c.in-Some.ensures) (inv.written t list) c.in_ok-write_whole_item.field-0 done;
    }
