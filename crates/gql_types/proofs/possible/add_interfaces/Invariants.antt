use Rattle.std.proofs.Common.{◌≡◌, ◌++◌, map, take}
use Rattle.gql_types.specs.Declarations.{pair}
use Rattle.gql_types.proofs.possible.add_interfaces.Given as goal

abbrev pub invariant-loop-interface : goal.invariant-loop-interface
invariant-loop-interface l = map pair l.found.items ≡ map pair l.initial.found.items ++ map (λ i. (i.node.text, l.object)) (take l.interface-index l.interfaces)
