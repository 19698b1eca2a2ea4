use Rattle.std.proofs.Common.{take}
use Rattle.gql_clashes.specs.Reach.{AreNeeded}
use Rattle.gql_clashes.proofs.needed.needed_pairs.Given as goal

abbrev pub invariant-loop-body : goal.invariant-loop-body
invariant-loop-body l = AreNeeded l.sets (take l.body-index l.bodies) l.pairs.items
