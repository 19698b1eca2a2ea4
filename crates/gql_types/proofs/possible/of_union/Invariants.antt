use Rattle.std.proofs.Common.{◌≡◌, map, take}
use Rattle.gql_types.proofs.possible.of_union.Given as goal

abbrev pub invariant-loop-member : goal.invariant-loop-member
invariant-loop-member l = map (λ n. n.now) l.names.items ≡ map (λ m. m.node.text) (take l.member-index l.members)
