use Rattle.gql_found.proofs.Picked.{none_made}
use Rattle.gql_found.specs.EditChecks.{shown_in}
use Rattle.gql_found.proofs.edit_check.add_shown.Goals as goal

pub returns-in_default : goal.returns-in_default
returns-in_default c =
    none_made (shown_in c.args.sources.now) c.args.affected.now c.args.place c.args.operations.now.items c.in_default.ensures.lookup.3
