use Rattle.gql_found.proofs.Picked.{none_at}
use Rattle.gql_found.proofs.edit_check.add_fault.Goals as goal

pub returns-in_default : goal.returns-in_default
returns-in_default c = none_at c.args.faults.now c.args.place c.args.picked.now.items c.in_default.ensures.lookup.3
