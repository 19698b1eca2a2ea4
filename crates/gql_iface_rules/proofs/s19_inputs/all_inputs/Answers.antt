use Rattle.std.proofs.Common.{map, rules}
use Rattle.gql_iface_rules.specs.S19Inputs.{object}
use Rattle.gql_iface_rules.proofs.S19Steps.{fields_step, objects_step}
use Rattle.gql_iface_rules.proofs.s19_inputs.all_inputs.Goals as goal

pub loop-of_type-preserved : goal.loop-of_type-preserved
loop-of_type-preserved c = record {
  fields = fields_step (λ f. f.now) c.types-of_type-items.result.now c.loop-of_type.of_type-index c.of_type-item.result (search rules) (search rules)
      c.loop-of_type.fields.items c.add_object.new.all.items c.loop-of_type.invariant.fields (rw c.get.ensures at c.in_ok-add_object.ensures.all);
  objects = objects_step (λ f. f.now) c.types-of_type-items.result.now c.loop-of_type.of_type-index c.of_type-item.result (search rules) (search rules)
      c.loop-of_type.fields.items (map object c.loop-of_type.objects.items) (map object c.add_object.new.objects.items)
      c.loop-of_type.invariant.fields c.loop-of_type.invariant.objects (rw c.get.ensures at c.in_ok-add_object.ensures.objects);
}
