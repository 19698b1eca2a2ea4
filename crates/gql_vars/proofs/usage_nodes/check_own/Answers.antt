use Rattle.std.proofs.Common.{◌++◌, ◌∙◌, ap}
use Rattle.gql_vars.proofs.UsageParts.{of_operation}
use Rattle.gql_vars.proofs.usage_nodes.check_own.Goals as goal

pub returns-clause-found : goal.returns-clause-found
returns-clause-found g c = λ variables first. c.in_ok-check_operation.ensures.found
    ∙ ap (λ l. c.args.faults.now.items ++ l) (of_operation (g.W.World.facts c.args.world.now)
    (record { owner = c.args.owner; file = c.args.file; first = c.args.first }) variables first c.args.operation.now)
