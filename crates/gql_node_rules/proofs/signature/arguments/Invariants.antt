use Rattle.std.proofs.Common.{◌≡◌, map, take}
use Rattle.gql_node_rules.proofs.signature.arguments.Given as goal

abbrev pub invariant-loop-definition : goal.invariant-loop-definition
invariant-loop-definition l = map (λ a. a.definition.now) l.found.items ≡ take l.definition-index l.definitions
