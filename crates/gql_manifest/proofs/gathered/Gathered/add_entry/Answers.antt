use Rattle.std.proofs.Common.{ap, map}
use Rattle.std.specs.Vec.Iter.{into_iter_items}
use Rattle.gql_manifest.proofs.GatheredSteps.{gathering_more}
use Rattle.gql_manifest.specs.Origins.{place_of}
use Rattle.gql_manifest.specs.Pieces.{brought_at}
use Rattle.gql_manifest.proofs.gathered.Gathered.add_entry.Goals as goal

pub loop-piece-preserved : goal.loop-piece-preserved
loop-piece-preserved c =
    gathering_more (map (brought_at (place_of c.in_ok-at.at)) (into_iter_items c.into_iter-piece-iterator.result)) (map (brought_at (place_of c.in_ok-at.at)) (into_iter_items c.loop-piece.piece-iterator))
    (map (brought_at (place_of c.in_ok-at.at)) (into_iter_items c.next.new.self)) (brought_at (place_of c.in_ok-at.at) c.in-Some.piece) c.args.self.now c.loop-piece.self c.add_piece.new.self
    c.loop-piece.invariant (ap (map (brought_at (place_of c.in_ok-at.at))) c.in-Some.ensures.steps.0) c.in_ok-add_piece.ensures.ok
