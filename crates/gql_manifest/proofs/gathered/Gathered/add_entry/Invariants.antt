use Rattle.std.proofs.Common.{map}
use Rattle.std.specs.Vec.Iter.{into_iter_items}
use Rattle.gql_manifest.proofs.GatheredSteps.{Gathering}
use Rattle.gql_manifest.specs.Origins.{place_of}
use Rattle.gql_manifest.specs.Pieces.{brought_at}
use Rattle.gql_manifest.proofs.gathered.Gathered.add_entry.Given as goal

abbrev pub invariant-loop-piece : goal.invariant-loop-piece
invariant-loop-piece l =
    Gathering (map (brought_at (place_of l.at)) (into_iter_items l.initial.piece-iterator)) l.initial.self (map (brought_at (place_of l.at)) (into_iter_items l.piece-iterator)) l.self
