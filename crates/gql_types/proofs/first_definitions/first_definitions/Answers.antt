use Rattle.std.proofs.Common.{rules}
use Rattle.gql_types.specs.Sites.{site}
use Rattle.gql_types.proofs.Firsts.{first_step, seen_step}
use Rattle.gql_types.proofs.first_definitions.first_definitions.Goals as goal

pub loop-definition-preserved : goal.loop-definition-preserved
loop-definition-preserved c =
    let before = c.loop-definition.invariant in (
      λ q. seen_step site q c.args.definitions.now c.loop-definition.definition-index c.definition-item.result _ _ (search rules) (search rules) (before.0 q) (c.in_ok-add_first.ensures.names q),
      first_step site c.args.definitions.now c.loop-definition.definition-index c.definition-item.result _ _ _ (search rules) (search rules) (before.0 (site c.definition-item.result).node.name.text) before.1 c.in_ok-add_first.ensures.firsts,
    )
