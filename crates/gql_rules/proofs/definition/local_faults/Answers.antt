use Rattle.std.proofs.Common.{◌++◌, ◌∙◌, ap}
use Rattle.gql_rules.specs.LocalFaults.{tree_faults}
use Rattle.gql_rules.proofs.Whole.{lists}
use Rattle.gql_rules.proofs.definition.local_faults.Goals as goal

pub returns-clause-found : goal.returns-clause-found
returns-clause-found g c =
    let F = g.W.World.facts c.args.world.now in
    let d = c.args.definition.now in
    lists F d _ _
    (c.in_ok-check_parts.ensures.found ∙ ap (λ l. l ++ tree_faults F c.in_ok-owner.owner d.tree) c.new-faults.ensures.items
    ∙ ap (λ o. tree_faults F o d.tree) c.in_ok-owner.ensures)
    (c.in_ok-check_cycle.ensures F c.requires)
