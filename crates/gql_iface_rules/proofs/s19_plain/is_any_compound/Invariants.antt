use Rattle.std.proofs.Common.{take}
use Rattle.std.specs.List.{All}
use Rattle.gql_iface_rules.specs.S19Plain.{HoldsNone}
use Rattle.gql_iface_rules.proofs.s19_plain.is_any_compound.Given as goal

abbrev pub invariant-loop-value : goal.invariant-loop-value
invariant-loop-value l = All HoldsNone (take l.value-index l.values)
