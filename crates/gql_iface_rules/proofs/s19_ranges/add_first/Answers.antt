use Rattle.std.proofs.Common.{sym, ap, ◌∙◌, ◌++◌, map}
use Rattle.gql_iface_rules.specs.S19Inputs.{numbered}
use Rattle.gql_iface_rules.specs.S19Ranges.{first_number}
use Rattle.gql_iface_rules.proofs.S19Firsts.{first_some, first_nil, nothing_added}
use Rattle.gql_iface_rules.proofs.s19_ranges.add_first.Goals as goal

pub returns-in_ok-push-in-Some : goal.returns-in_ok-push-in-Some
returns-in_ok-push-in-Some c = c.in_ok-push-in-Some.ensures.items ∙ ap (λ xs. c.args.numbers.now.items ++ xs) (sym (first_some c.args.input_object.now.inputs c.args.name.now c.in-Some.input.now c.in-Some.ensures))

pub returns-in-None : goal.returns-in-None
returns-in-None c = nothing_added c.args.numbers.now.items (first_number (map numbered c.args.input_object.now.inputs) c.args.name.now) (first_nil c.args.input_object.now.inputs c.args.name.now c.in-None.ensures)
