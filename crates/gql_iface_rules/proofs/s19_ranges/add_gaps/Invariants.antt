use Rattle.std.proofs.Common.{take}
use Rattle.gql_iface_rules.proofs.S19Gaps.{Gaps}
use Rattle.gql_iface_rules.proofs.s19_ranges.add_gaps.Given as goal

abbrev pub invariant-loop-number : goal.invariant-loop-number
invariant-loop-number l = Gaps l.numbers l.initial.gaps.items (take l.number-index l.given) l.gaps.items l.start
