use Rattle.std.proofs.Common.{◌≡◌, ◌++◌, flat_map, map, take}
use Rattle.gql_iface_rules.specs.Borrowed.{pair}
use Rattle.gql_iface_rules.specs.Implementing.{paired}
use Rattle.gql_iface_rules.proofs.implementing.add_pairs.Given as goal

abbrev pub invariant-loop-expected : goal.invariant-loop-expected
invariant-loop-expected l = map pair l.pairs.items ≡ map pair l.initial.pairs.items ++ flat_map (paired l.implementation.of_type.now.fields) (take l.expected-index l.expected-items)
