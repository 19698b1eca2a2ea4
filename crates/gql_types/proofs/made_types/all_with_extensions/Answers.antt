use Rattle.std.proofs.Common.{rules, [], map}
use Rattle.std.specs.Option.{option_map_or}
use Rattle.std.specs.HashMap as hash
use Rattle.gql_types.specs.EditedTypes.{type_by}
use Rattle.gql_types.specs.Sites.{site}
use Rattle.gql_types.proofs.Groups.{made_step}
use Rattle.gql_types.proofs.made_types.all_with_extensions.Goals as goal

pub loop-definition-preserved : goal.loop-definition-preserved
loop-definition-preserved c = made_step (type_by (λ q. option_map_or (λ group. map (λ x. x.now) group.items) (hash.get_by_text c.args.extensions.now q) [])) site
    c.args.definitions.now c.loop-definition.definition-index c.definition-item.result c.loop-definition.types c.add.new.self
    (search rules) (search rules) c.loop-definition.invariant (search rules)
