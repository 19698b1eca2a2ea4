use Rattle.std.proofs.Common.{◌≡◌, map, take}
use Rattle.gql_iface_rules.specs.S19DefaultValueCycles.{input_objects, fields_of, objects_from}
use Rattle.gql_iface_rules.specs.S19Inputs.{object}
use Rattle.gql_iface_rules.proofs.s19_inputs.all_inputs.Given as goal

abbrev pub invariant-loop-of_type : goal.invariant-loop-of_type
invariant-loop-of_type l = record {
  fields : map (λ f. f.now) l.fields.items ≡ fields_of (input_objects (take l.of_type-index l.of_type-items));
  objects : map object l.objects.items ≡ objects_from 0 (input_objects (take l.of_type-index l.of_type-items));
}
