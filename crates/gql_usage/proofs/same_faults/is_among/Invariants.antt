use Rattle.std.proofs.Common.{Contains, take}
use Rattle.gql_usage.proofs.same_faults.is_among.Given as goal

abbrev pub invariant-loop-other : goal.invariant-loop-other
invariant-loop-other l = Contains (take l.other-index l.faults) l.fault → ⊥
