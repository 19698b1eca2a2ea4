use Rattle.std.proofs.Common.{◌<◌, length, subst, arith}
use Rattle.gql_deep.specs.Frames.{FitsBegun}
use Rattle.gql_types.specs.Written.{written}
use Rattle.serde_json.specs.View.{view}
use Rattle.gql_steps.specs.Objects.{basis}
use Rattle.gql_steps.specs.Plans.{types_of}
use Rattle.gql_steps.specs.States.{path_of}
use Rattle.gql_steps.specs.ValueParts.{data_items, item_part, site_of}
use Rattle.gql_steps.proofs.Entries.{grows_same, grows_twice, in_still}
use Rattle.gql_deep.proofs.Running.{begins_ended, begins_within, item_asked, item_more, item_pauses, item_stops, items_end, turns_stopped}
use Rattle.gql_deep.proofs.data_lists.run_items.Goals as goal

pub returns-in_err-first-clause-does : goal.returns-in_err-first-clause-does
returns-in_err-first-clause-does c = λ whole start at.
    turns_stopped (basis c.args.setting.now) c.args.table.now whole start c.from_residual.result c.in_err-first.field-0.0 c.first_items.new.run c.from_residual.ensures.1
    (c.in_err-first.ensures.stops (basis c.args.setting.now) c.args.table.now whole start at)

pub loop-i-init : goal.loop-i-init
loop-i-init c = record {
  right = c.requires.right;
  grows = grows_same c.args.table.now;
  left = c.in_ok-first.ensures.left;
  count = c.count-i-end.ensures;
  done = λ whole start at. c.in_ok-first.ensures.written (basis c.args.setting.now) c.args.table.now whole start at;
}

pub begin_item-requires : goal.begin_item-requires
begin_item-requires c = let inv = c.loop-i.invariant in record { right = inv.right; within = in_still c.args.table.now c.loop-i.table c.args.frame.site.slot inv.grows c.requires.within }

pub loop-i-preserved : goal.loop-i-preserved
loop-i-preserved c =
    let g = basis c.args.setting.now in
    let inv = c.loop-i.invariant in
    let f = c.args.frame in
    let is_item : c.loop-i.i < length (data_items f.items) = omega (arith, inv.count, c.loop-i-test.true) in
    let d = view c.item-value.result.now in
    record {
      right = c.in_ok-item_ended.ensures.keeps.right;
      grows = grows_twice c.args.table.now c.loop-i.table c.begin_item.new.table inv.grows c.in_ok-item_ended.ensures.keeps.grows;
      left = omega (arith, inv.left, c.in_ok-item_ended.ensures.keeps.left);
      count = inv.count;
      done = λ whole start at.
          rw c.and-ended.ensures (item_more g c.args.table.now f whole start c.args.run.now c.loop-i.run at c.loop-i.i c.loop-i.ended (inv.done whole start at) d is_item c.item-value.ensures
          c.in-Ended.item_ended c.begin_item.new.run
          (begins_ended g c.begin_item.new.table (item_part (written f.item.now) (site_of (types_of g) f.site.place at.plan) (path_of c.loop-i.run) c.loop-i.i d) c.loop-i.run c.begin_item.new.run _ c.in-Ended.item_ended c.in-Ended.is
          (c.in_ok-item_ended.ensures.does at.plan (item_asked g c.args.table.now f whole start c.args.run.now at c.loop-i.table inv.grows))));
    }

pub returns-in-Within-clause-does : goal.returns-in-Within-clause-does
returns-in-Within-clause-does c = λ whole start at.
    let g = basis c.args.setting.now in
    let inv = c.loop-i.invariant in
    let f = c.args.frame in
    let is_item : c.loop-i.i < length (data_items f.items) = omega (arith, inv.count, c.loop-i-test.true) in
    let d = view c.item-value.result.now in
    item_pauses g c.args.table.now f whole start c.args.run.now c.loop-i.run at c.loop-i.i c.loop-i.ended (inv.done whole start at) d is_item c.item-value.ensures
    c.begin_item.new.table c.in-Within.around c.in-Within.inner c.begin_item.new.run (grows_twice c.args.table.now c.loop-i.table c.begin_item.new.table inv.grows c.in_ok-item_ended.ensures.keeps.grows)
    (begins_within g c.begin_item.new.table (item_part (written f.item.now) (site_of (types_of g) f.site.place at.plan) (path_of c.loop-i.run) c.loop-i.i d) c.loop-i.run c.begin_item.new.run _ c.in-Within.around c.in-Within.inner c.in-Within.is
    (c.in_ok-item_ended.ensures.does at.plan (item_asked g c.args.table.now f whole start c.args.run.now at c.loop-i.table inv.grows)))

pub returns-in_err-item_ended-clause-does : goal.returns-in_err-item_ended-clause-does
returns-in_err-item_ended-clause-does c = λ whole start at.
    let g = basis c.args.setting.now in
    let inv = c.loop-i.invariant in
    let f = c.args.frame in
    let is_item : c.loop-i.i < length (data_items f.items) = omega (arith, inv.count, c.loop-i-test.true) in
    let d = view c.item-value.result.now in
    turns_stopped g c.begin_item.new.table whole start c.from_residual-in_err-item_ended.result c.in_err-item_ended.field-0.0 c.begin_item.new.run c.from_residual-in_err-item_ended.ensures.1
    (λ heavy. item_stops g c.args.table.now f whole start c.args.run.now c.loop-i.run at c.loop-i.i c.loop-i.ended (inv.done whole start at) d is_item c.item-value.ensures
    (c.in_err-item_ended.ensures.does at.plan (item_asked g c.args.table.now f whole start c.args.run.now at c.loop-i.table inv.grows) heavy))

pub returns-clause-does : goal.returns-clause-does
returns-clause-does c = λ whole start at.
    let inv = c.loop-i.invariant in
    items_end (basis c.args.setting.now) c.args.table.now c.args.frame whole start c.args.run.now c.loop-i.run at c.loop-i.i c.loop-i.ended (inv.done whole start at)
    (omega (arith, inv.count, c.loop-i-test.false)) c.write_byte.new.run c.in_ok-write_byte.ensures.follows

pub returns-in-Within-clause-keeps : goal.returns-in-Within-clause-keeps
returns-in-Within-clause-keeps c =
    let inv = c.loop-i.invariant in
    let k = c.in_ok-item_ended.ensures.keeps in
    let grows = grows_twice c.args.table.now c.loop-i.table c.begin_item.new.table inv.grows k.grows in
    record {
      right = k.right;
      grows = grows;
      left = omega (arith, inv.left, k.left);
      fits = (in_still c.args.table.now c.begin_item.new.table c.args.frame.site.slot grows c.requires.within, subst (FitsBegun c.begin_item.new.table) c.in-Within.is k.fits);
    }

pub returns-clause-keeps : goal.returns-clause-keeps
returns-clause-keeps c =
    let inv = c.loop-i.invariant in
    record { right = inv.right; grows = inv.grows; left = omega (arith, inv.left, c.in_ok-write_byte.ensures.follows.left); fits = tt }
