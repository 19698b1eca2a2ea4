use Rattle.std.proofs.Common.{IfSome}
use Rattle.gql_pairs.specs.Growing.{IsBaseAt}
use Rattle.gql_pairs.proofs.growing.largest_base.Given as goal

abbrev pub invariant-loop-at : goal.invariant-loop-at
invariant-loop-at l = IfSome l.found (IsBaseAt l.groups l.names.keys)
