use Rattle.std.proofs.Common.{◌≡◌, ℕ, List, [], map, filter, bytes_eq, take}
use Rattle.std.specs.Option.{option_map_or}
use Rattle.std.specs.HashMap as hash
use Rattle.gql_types.proofs.by_name.by_name.Given as goal

abbrev pub invariant-loop-thing : goal.invariant-loop-thing
invariant-loop-thing g l = (q : List ℕ) → option_map_or (λ group. map (λ x. x.now) group.items) (hash.get_by_text l.groups q) []
    ≡ filter (λ x. bytes_eq q (g.T.HasName.name x)) (take l.thing-index l.things)
