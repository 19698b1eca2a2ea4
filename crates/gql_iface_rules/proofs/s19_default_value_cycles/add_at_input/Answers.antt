use Rattle.gql_iface_rules.proofs.S19Faults.{nothing_added}
use Rattle.gql_iface_rules.proofs.s19_default_value_cycles.add_at_input.Goals as goal

pub returns-in-None : goal.returns-in-None
returns-in-None c = nothing_added (λ f. f.now) c.args.fields.now c.args.number c.args.faults.now.items (c.in-None.ensures).lookup.0
