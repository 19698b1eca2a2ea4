use Rattle.std.proofs.Common.{◌≡◌, ◌++◌, map, flat_map, take}
use Rattle.gql_node_rules.specs.ValueTypes.{type_of_given}
use Rattle.gql_node_rules.proofs.directive_use.add_known.Given as goal

abbrev pub invariant-loop-argument : goal.invariant-loop-argument
invariant-loop-argument l = map (λ n. n.now) l.found.items ≡ map (λ n. n.now) l.initial.found.items
    ++ flat_map (type_of_given l.signature.definition.now.node.arguments) (take l.argument-index l.argument-items)
