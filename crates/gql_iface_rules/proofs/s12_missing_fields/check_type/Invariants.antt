use Rattle.std.proofs.Common.{◌≡◌, ◌++◌, bytes_eq, flat_map, is_some, take}
use Rattle.std.specs.HashMap as hash
use Rattle.gql_iface_rules.specs.Implementing.{implemented_by}
use Rattle.gql_iface_rules.specs.S12MissingFields.{missing_fields}
use Rattle.gql_iface_rules.specs.Settled.{AreSettled}
use Rattle.gql_iface_rules.proofs.s12_missing_fields.check_type.Given as goal

abbrev pub invariant-loop-name : goal.invariant-loop-name
invariant-loop-name l = record {
  settled : AreSettled l.schema l.of_type (λ q. is_some (hash.get_by (λ k. bytes_eq q k.now) l.settled));
  faults : l.faults.items ≡ l.initial.faults.items
      ++ flat_map missing_fields (flat_map (implemented_by l.schema l.of_type) (take l.name-index l.name-items));
}
