use Rattle.std.proofs.Common.{[], map, length, subst, sym, ap, ◌∙◌, arith}
use Rattle.std.proofs.lemmas.List.{map_push, length-map, length_push}
use Rattle.gql_cycles.proofs.Members.{read_at}
use Rattle.gql_cycles.specs.SegmentTree.{IsCover}
use Rattle.gql_cycles.proofs.Rowing.{covers_more}
use Rattle.gql_cycles.proofs.ranges.covers.Goals as goal

pub loop-ranges_there-preserved : goal.loop-ranges_there-preserved
loop-ranges_there-preserved c = record {
  count = omega (arith, ap length c.in_ok-push.ensures.items, length_push c.loop-ranges_there.rows.items c.in_ok-cover.field-0, c.loop-ranges_there.invariant.count);
  rows = covers_more c.args.count (map (λ v. v.items) c.args.ranges.now) (map (λ v. v.items) c.loop-ranges_there.rows.items) (map (λ v. v.items) c.push.new.self.items) c.in_ok-cover.field-0.items c.loop-ranges_there.ranges_there-index
      (omega (arith, length-map c.loop-ranges_there.rows.items (λ v. v.items), c.loop-ranges_there.invariant.count)) (ap (map (λ v. v.items)) c.in_ok-push.ensures.items ∙ map_push (λ v. v.items) c.loop-ranges_there.rows.items c.in_ok-cover.field-0) c.loop-ranges_there.invariant.rows
      (subst (λ rs. IsCover c.args.count rs c.in_ok-cover.field-0.items)
      (c.deref.ensures.value ∙ sym (read_at (λ v. v.items) c.args.ranges.now c.loop-ranges_there.ranges_there-index c.ranges_there-item.result [] c.loop-ranges_there-test.true c.ranges_there-item.is))
      (record { within = c.in_ok-cover.ensures.within; above = c.in_ok-cover.ensures.above }));
}
