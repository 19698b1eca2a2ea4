use Rattle.std.proofs.Common.{◌≡◌, ◌++◌, true, take, map, flat_map}
use Rattle.gql_iface_rules.specs.S19DefaultValueCycles.{object_values, given, values_in_field}
use Rattle.gql_iface_rules.specs.S19Inputs.{object, object_value}
use Rattle.gql_types.specs.Written.{written}
use Rattle.gql_iface_rules.proofs.s19_object_values.+object_values.Given as goal

abbrev pub invariant-add_items-loop-item : goal.invariant-add_items-loop-item
invariant-add_items-loop-item l = map object_value l.object_values.items ≡ map object_value l.initial.object_values.items ++ flat_map (λ x. x true (written l.of_type)) (map (object_values (map object l.objects)) (take l.item-index l.items))

abbrev pub invariant-add_fields-loop-field : goal.invariant-add_fields-loop-field
invariant-add_fields-loop-field l = map object_value l.object_values.items ≡ map object_value l.initial.object_values.items ++ flat_map (values_in_field l.of_type) (map (given (map object l.objects)) (take l.field-index l.fields))
