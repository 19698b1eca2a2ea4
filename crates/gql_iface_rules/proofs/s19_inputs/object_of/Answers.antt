use Rattle.std.proofs.Common.{◌∙◌, ap, sym, map, option_map, bytes_eq}
use Rattle.gql_iface_rules.specs.S19DefaultValueCycles.{NumberedObject, object_named}
use Rattle.gql_iface_rules.specs.S19Inputs.{object}
use Rattle.gql_types.specs.Possible.{name_of}
use Rattle.gql_iface_rules.proofs.S19Steps.{find-map}
use Rattle.gql_iface_rules.proofs.s19_inputs.object_of.Goals as goal

pub returns : goal.returns
returns c = ap (option_map object) c.get.ensures ∙ sym (find-map object (λ (o : NumberedObject). bytes_eq c.as_str.result.now (name_of o.of_type)) c.args.objects.now)
    ∙ ap (object_named (map object c.args.objects.now)) (c.as_str.ensures ∙ c.name_in.ensures)
