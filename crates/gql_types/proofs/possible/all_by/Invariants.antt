use Rattle.std.proofs.Common.{◌≡◌, [], map, flat_map, take}
use Rattle.std.specs.Option.{option_map_or}
use Rattle.std.specs.HashMap as hash
use Rattle.gql_types.specs.Abstracts.{abstract_by}
use Rattle.gql_types.proofs.possible.all_by.Given as goal

abbrev pub invariant-loop-of_type : goal.invariant-loop-of_type
invariant-loop-of_type l = l.found.items ≡ flat_map (λ t. abstract_by t.kind
    (λ q. map (λ d. d.object.now) (option_map_or (λ group. map (λ x. x.now) group.items) (hash.get_by_text l.declaring q) [])) t) (map (λ t. t.now) (take l.of_type-index l.types))
