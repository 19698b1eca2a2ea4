use Rattle.std.proofs.Common.{subst}
use Rattle.gql_facts.specs.Members.{Lists}
use Rattle.gql_vars.specs.VariableFaults.{IsFaultOf}
use Rattle.gql_vars.proofs.Whole.{of_lists}
use Rattle.gql_vars.proofs.operation.variable_faults.Goals as goal

pub returns-in_ok-faults-in-Operation-clause-found : goal.returns-in_ok-faults-in-Operation-clause-found
returns-in_ok-faults-in-Operation-clause-found g c =
    let F = g.W.World.facts c.args.world.now in
    let d = c.args.definition.now in
    of_lists F d c.in-Operation.operation c.in_ok-faults-in-Operation.faults.items c.in-Operation.is
    (subst (λ o. Lists c.in_ok-faults-in-Operation.faults.items (IsFaultOf F d o)) c.get.ensures c.in_ok-faults-in-Operation.ensures.found)
