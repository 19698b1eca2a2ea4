use Rattle.std.proofs.Common.{sym, ap, ◌∙◌, map, rules}
use Rattle.gql_iface_rules.specs.S19Inputs.{object, numbered}
use Rattle.gql_iface_rules.specs.S19Ranges.{first_number}
use Rattle.gql_iface_rules.proofs.S19Firsts.{first_some, first_nil, end_some, end_none}
use Rattle.gql_iface_rules.proofs.s19_ends.add_end.Goals as goal

pub returns-in_ok-push-in-Some : goal.returns-in_ok-push-in-Some
returns-in_ok-push-in-Some c = end_some (object c.args.input_object.now) (numbered c.args.input.now) c.in-Some.first.now.number c.args.ends.now.items c.push.new.self.items (search rules)
    (ap (first_number (map numbered c.args.input_object.now.inputs)) (sym c.name.ensures) ∙ first_some c.args.input_object.now.inputs c.name.result.now c.in-Some.first.now c.in-Some.ensures) c.in_ok-push-in-Some.ensures.items

pub returns-in-None : goal.returns-in-None
returns-in-None c = end_none (object c.args.input_object.now) (numbered c.args.input.now) c.args.ends.now.items (search rules)
    (ap (first_number (map numbered c.args.input_object.now.inputs)) (sym c.name.ensures) ∙ first_nil c.args.input_object.now.inputs c.name.result.now c.in-None.ensures)
