use Rattle.std.proofs.Common.{map, length, subst, sym, ap, ◌∙◌, arith}
use Rattle.std.proofs.lemmas.List.{map_push, length-map, length_push}
use Rattle.gql_cycles.proofs.Members.{read_at}
use Rattle.gql_iface_rules.specs.S19DefaultValueCycles.{default_values}
use Rattle.gql_iface_rules.specs.S19Inputs.{object}
use Rattle.gql_iface_rules.specs.S19Ranges.{AreMissing}
use Rattle.gql_iface_rules.proofs.S19Gaps.{ranges_more}
use Rattle.gql_iface_rules.proofs.s19_ranges.all_ranges.Goals as goal

pub loop-field-preserved : goal.loop-field-preserved
loop-field-preserved c = record {
  count = omega (arith, ap length c.in_ok-push.ensures.items, length_push c.loop-field.ranges.items c.in_ok-default_ranges.field-0, c.loop-field.invariant.count);
  ranges = ranges_more (map object c.args.objects.now) (map (λ f. f.now) c.args.fields.now) (map (λ v. v.items) c.loop-field.ranges.items) (map (λ v. v.items) c.push.new.self.items) c.in_ok-default_ranges.field-0.items c.loop-field.field-index
      (omega (arith, length-map c.loop-field.ranges.items (λ v. v.items), c.loop-field.invariant.count))
      (ap (map (λ v. v.items)) c.in_ok-push.ensures.items ∙ map_push (λ v. v.items) c.loop-field.ranges.items c.in_ok-default_ranges.field-0) c.loop-field.invariant.ranges
      (λ d. subst (λ f. AreMissing (default_values (map object c.args.objects.now) f) c.in_ok-default_ranges.field-0.items)
      (sym (read_at (λ f. f.now) c.args.fields.now c.loop-field.field-index c.field-item.result d c.loop-field-test.true c.field-item.is)) c.in_ok-default_ranges.ensures);
}

pub returns-clause-ranges : goal.returns-clause-ranges
returns-clause-ranges c = λ i d lt. c.loop-field.invariant.ranges i d (omega (arith, lt, c.loop-field-test.false))
