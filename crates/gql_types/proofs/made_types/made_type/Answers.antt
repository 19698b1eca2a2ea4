use Rattle.std.proofs.Common.{[], map, ap, ◌∙◌}
use Rattle.std.specs.Option.{option_map_or}
use Rattle.std.specs.HashMap as hash
use Rattle.gql_types.specs.EditedTypes.{type_by}
use Rattle.gql_types.proofs.made_types.made_type.Goals as goal

pub returns : goal.returns
returns c = c.in_ok-of_type.ensures
    ∙ ap (type_by (λ q. option_map_or (λ group. map (λ x. x.now) group.items) (hash.get_by_text c.args.extensions.now q) [])) c.in_ok-definition.ensures
