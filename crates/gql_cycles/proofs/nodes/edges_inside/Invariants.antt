use Rattle.std.proofs.Common.{◌≡◌, map, take}
use Rattle.gql_cycles.specs.Inside.{ends_inside}
use Rattle.gql_cycles.proofs.nodes.edges_inside.Given as goal

abbrev pub invariant-loop-ends : goal.invariant-loop-ends
invariant-loop-ends l = map (λ v. v.items) l.found.items ≡ map (ends_inside l.count) (map (λ v. v.items) (take l.ends-index l.edges))
