use Rattle.std.proofs.Common.{◌≡◌, [], map, take}
use Rattle.std.specs.Option.{option_map_or}
use Rattle.std.specs.HashMap as hash
use Rattle.gql_types.specs.EditedTypes.{type_by}
use Rattle.gql_types.specs.Sites.{site}
use Rattle.gql_types.proofs.made_types.all_with_extensions.Given as goal

abbrev pub invariant-loop-definition : goal.invariant-loop-definition
invariant-loop-definition l = l.types ≡ map (type_by (λ q. option_map_or (λ group. map (λ x. x.now) group.items) (hash.get_by_text l.extensions q) []))
    (map site (take l.definition-index l.definitions))
