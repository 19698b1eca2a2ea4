use Rattle.std.proofs.Common.{take}
use Rattle.std.specs.List.{All}
use Rattle.gql_iface_rules.specs.S19Plain.{TypeNeedsNone}
use Rattle.gql_iface_rules.proofs.s19_plain.may_types_need.Given as goal

abbrev pub invariant-loop-of_type : goal.invariant-loop-of_type
invariant-loop-of_type l = All TypeNeedsNone (take l.of_type-index l.types)
