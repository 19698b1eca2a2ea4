use Rattle.std.proofs.Common.{◌≡◌, ◌++◌, flat_map, take, bytes_eq}
use Rattle.std.specs.Option.{option_to_list}
use Rattle.std.specs.HashMap as hash
use Rattle.gql_cycles.proofs.name_graph.add_leads.Given as goal

abbrev pub invariant-loop-lead : goal.invariant-loop-lead
invariant-loop-lead l = l.found.items ≡ l.initial.found.items
    ++ flat_map (λ b. option_to_list (hash.get_by (λ k. bytes_eq b.now k.now) l.nodes)) (take l.lead-index l.leads)
