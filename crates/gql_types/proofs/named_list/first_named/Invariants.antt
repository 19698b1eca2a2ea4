use Rattle.std.proofs.Common.{◌≡◌, bytes_eq, drop, find}
use Rattle.gql_types.proofs.named_list.first_named.Given as goal

abbrev pub invariant-loop-thing : goal.invariant-loop-thing
invariant-loop-thing g l = find (λ x. bytes_eq l.name (g.T.HasName.name x)) l.things
    ≡ find (λ x. bytes_eq l.name (g.T.HasName.name x)) (drop l.thing-index l.things)
