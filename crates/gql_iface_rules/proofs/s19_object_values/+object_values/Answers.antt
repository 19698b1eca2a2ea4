use Rattle.std.proofs.Common.{map, ap, ◌∙◌}
use Rattle.std.proofs.lemmas.List.{map_push}
use Rattle.gql_iface_rules.specs.S19Inputs.{object, object_value}
use Rattle.gql_iface_rules.proofs.S19Steps.{with_itself}
use Rattle.gql_iface_rules.proofs.s19_object_values.+object_values.Goals as goal

pub add_values_of_object-returns : goal.add_values_of_object-returns
add_values_of_object-returns t c = with_itself (map object c.args.objects.now) c.args.fields.now (object c.args.found.now) (map object_value c.args.object_values.now.items) (map object_value c.add_fields.new.object_values.items) (map object_value c.push.new.self.items)
    c.in_ok-add_fields.ensures (ap (map object_value) c.in_ok-push.ensures.items ∙ map_push object_value c.add_fields.new.object_values.items _)
