use Rattle.std.proofs.Common.{[], map, ap, ◌∙◌}
use Rattle.std.specs.Option.{option_map_or}
use Rattle.std.specs.HashMap as hash
use Rattle.gql_types.specs.EditedTypes.{type_by}
use Rattle.gql_types.specs.Sites.{site}
use Rattle.gql_types.specs.Types.{first_definitions}
use Rattle.gql_types.proofs.Groups.{types_by_groups}
use Rattle.gql_types.proofs.made_types.types_of.Goals as goal

pub returns : goal.returns
returns c = c.in_ok-types.ensures
    ∙ ap (map (type_by (λ q. option_map_or (λ group. map (λ x. x.now) group.items) (hash.get_by_text c.in_ok-groups.groups q) [])))
    (ap (map site) c.as_slice.ensures.value ∙ c.in_ok-firsts.ensures)
    ∙ types_by_groups (λ q. option_map_or (λ group. map (λ x. x.now) group.items) (hash.get_by_text c.in_ok-groups.groups q) []) c.args.extensions.now (first_definitions (map site c.args.definitions.now)) c.in_ok-groups.ensures
