use Rattle.gql_cycles.proofs.Covering.{Covering}
use Rattle.gql_cycles.proofs.cover.add_cover.Given as goal

-- a level of the tree
abbrev pub invariant-levels : goal.invariant-levels
invariant-levels l = Covering l.count l.initial.segments.items l.initial.left l.initial.right l.segments.items l.left l.right

abbrev pub decreases-levels : goal.decreases-levels
decreases-levels l = l.right
