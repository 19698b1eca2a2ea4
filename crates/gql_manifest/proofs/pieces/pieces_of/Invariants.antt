use Rattle.std.proofs.Common.{length}
use Rattle.gql_manifest.proofs.PieceSteps.{PartsSoFar}
use Rattle.gql_manifest.proofs.pieces.pieces_of.Given as goal

abbrev pub invariant-loop-left : goal.invariant-loop-left
invariant-loop-left l = PartsSoFar l.at l.text l.initial.left l.pieces.items l.left

abbrev pub decreases-loop-left : goal.decreases-loop-left
decreases-loop-left l = length l.left
