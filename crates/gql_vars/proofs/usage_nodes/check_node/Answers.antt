use Rattle.std.proofs.Common.{◌∙◌}
use Rattle.gql_vars.proofs.UsageVisits.{below_by}
use Rattle.gql_vars.proofs.usage_nodes.check_node.Goals as goal

pub returns-clause-below : goal.returns-clause-below
returns-clause-below g c = below_by (g.W.World.facts c.args.world.now) _ c.args.parent.now c.args.field.now.name.text _ _ _
    (c.field_in-known.ensures ∙ c.in_ok-fact.ensures.answer)
    (c.in_ok-check_directives.ensures.facts ∙ (c.in_ok-check_arguments.ensures.facts ∙ c.in_ok-fact.ensures.facts))
    c.type_of.ensures c.in_ok-below.ensures.parent
