use Rattle.std.proofs.Common.{◌↔◌, ◌⊎◌, take}
use Rattle.std.specs.Prelude.{Contains, IsTrue}
use Rattle.std.specs.List.{All}
use Rattle.gql_ast.specs.declared.fault.Fault.{Fault}
use Rattle.gql_iface_rules.specs.KnownNames.{AsksOfKnown}
use Rattle.gql_iface_rules.specs.Pairing.{IsFaultOfTypes}
use Rattle.gql_iface_rules.proofs.rules.check_pairs.Given as goal

abbrev pub invariant-loop-of_type : goal.invariant-loop-of_type
invariant-loop-of_type l = ((f : Fault) → Contains l.faults.items f
    ↔ (Contains l.initial.faults.items f ⊎ IsFaultOfTypes l.schema (take l.of_type-index l.types) f))
    × (IsTrue l.are_all_known ↔ All (AsksOfKnown l.schema) (take l.of_type-index l.types))
