use Rattle.std.proofs.Common.{◌≡◌, true, rules}
use Rattle.gql_node_rules.specs.Applied.{is_listed}
use Rattle.gql_node_rules.proofs.Listed.{already}
use Rattle.gql_node_rules.proofs.locations.add_location.Goals as goal

pub returns-else-not-is_listed : goal.returns-else-not-is_listed
returns-else-not-is_listed c =
    let listed : is_listed c.args.location c.args.found.now.items ≡ true = search rules in
    λ l. already c.args.location l c.args.found.now.items listed
