use Rattle.std.proofs.Common.{◌≡◌, map, take}
use Rattle.gql_node_rules.specs.DirectiveUses.{types_of_all}
use Rattle.gql_node_rules.specs.Resolved.{resolution}
use Rattle.gql_node_rules.proofs.directive_use.value_types.Given as goal

abbrev pub invariant-loop-resolved : goal.invariant-loop-resolved
invariant-loop-resolved l = map (λ n. n.now) l.found.items ≡ types_of_all (map resolution (take l.resolved-index l.all))
