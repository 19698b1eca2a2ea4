use Rattle.std.proofs.Common.{◌≡◌, map, take}
use Rattle.gql_node_rules.specs.Borrowed.{application}
use Rattle.gql_node_rules.specs.Resolved.{resolution, resolved_by}
use Rattle.gql_node_rules.proofs.resolved.all_resolved.Given as goal

abbrev pub invariant-loop-applied : goal.invariant-loop-applied
invariant-loop-applied l = map resolution l.found.items
    ≡ map (resolved_by (map (λ g. g.definition.now) l.signatures)) (map application (take l.applied-index l.all))
