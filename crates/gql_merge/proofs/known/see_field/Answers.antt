use Rattle.std.proofs.Common.{◌∙◌}
use Rattle.gql_merge.proofs.Below.{below_known}
use Rattle.gql_merge.proofs.known.see_field.Goals as goal

pub returns-in-Some-field_in-clause-below : goal.returns-in-Some-field_in-clause-below
returns-in-Some-field_in-clause-below g c =
    below_known (g.W.World.facts c.args.world.now) _ c.args.parent.now c.args.field.now.name.text c.in-Some-field_in.definition.now _
    (c.in-Some-field_in.ensures ∙ c.in_ok-fact.ensures.answer) c.in_ok-fact.ensures.facts c.in_ok-seen.ensures.below
