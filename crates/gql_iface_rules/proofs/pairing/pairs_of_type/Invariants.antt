use Rattle.std.proofs.Common.{bytes_eq, is_some, map, take}
use Rattle.std.specs.HashMap as hash
use Rattle.gql_iface_rules.specs.Borrowed.{pair}
use Rattle.gql_iface_rules.specs.Pairing.{IsPaired}
use Rattle.gql_iface_rules.proofs.pairing.pairs_of_type.Given as goal

abbrev pub invariant-loop-name : goal.invariant-loop-name
invariant-loop-name l = IsPaired l.schema l.of_type (take l.name-index l.name-items)
    (λ q. is_some (hash.get_by (λ k. bytes_eq q k.now) l.met)) (map pair l.pairs.items)
