use Rattle.std.proofs.Common.{◌≡◌, [], map, replicate}
use Rattle.gql_cycles.proofs.name_graph.no_edges.Given as goal

abbrev pub invariant-loop : goal.invariant-loop
invariant-loop l = map (λ v. v.items) l.edges.items ≡ replicate l.counter []
