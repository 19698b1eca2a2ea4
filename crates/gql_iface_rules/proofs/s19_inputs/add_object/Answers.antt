use Rattle.std.proofs.Common.{map, length, ap, ◌∙◌, arith, rules}
use Rattle.std.proofs.lemmas.List.{map_push, length-map, length-append}
use Rattle.gql_iface_rules.specs.S19Inputs.{object, numbered}
use Rattle.gql_iface_rules.proofs.S19Steps.{object_added}
use Rattle.gql_iface_rules.proofs.s19_inputs.add_object.Goals as goal

pub returns-in_ok-push-clause-objects : goal.returns-in_ok-push-clause-objects
returns-in_ok-push-clause-objects c = object_added c.args.of_type.now (length c.args.all.now.items) c.len-start.result c.len.result (map numbered c.in_ok-inputs.inputs)
    (map object c.args.objects.now.items) (map object c.push.new.self.items) (search rules)
    (ap (map numbered) c.in_ok-inputs.ensures ∙ c.in_ok-fields.ensures.numbers)
    (search rules) (omega (arith, c.len.ensures, ap length c.in_ok-fields.ensures.all, length-map c.numbered_inputs.new.all.items (λ f. f.now), length-append (map (λ f. f.now) c.args.all.now.items) c.args.of_type.now.input_fields, length-map c.args.all.now.items (λ f. f.now)))
    (ap (map object) c.in_ok-push.ensures.items ∙ map_push object c.args.objects.now.items _)
