use Rattle.std.proofs.Common.{◌++◌, ◌∙◌, ap}
use Rattle.gql_vars.proofs.UsageParts.{of_fragment}
use Rattle.gql_vars.proofs.usage_nodes.check_member.Goals as goal

pub returns-clause-found : goal.returns-clause-found
returns-clause-found g c = λ variables first. c.in_ok-check_fragment.ensures.found
    ∙ ap (λ l. c.args.faults.now.items ++ l) (of_fragment (g.W.World.facts c.args.world.now)
    (record { owner = c.args.owner; file = c.args.file; first = c.args.first }) variables first c.args.fragment.now)
