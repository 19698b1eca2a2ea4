use Rattle.std.proofs.Common.{◌≡◌, bytes_eq, drop}
use Rattle.std.specs.List.{position_from}
use Rattle.gql_types.proofs.named_list.first_place.Given as goal

abbrev pub invariant-loop-place : goal.invariant-loop-place
invariant-loop-place g l = position_from (λ x. bytes_eq l.name (g.T.HasName.name x)) 0 l.things
    ≡ position_from (λ x. bytes_eq l.name (g.T.HasName.name x)) l.place (drop l.place l.things)
