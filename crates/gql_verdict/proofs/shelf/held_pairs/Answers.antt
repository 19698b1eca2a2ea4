use Rattle.gql_verdict.proofs.PairsKnown.{known_pairs}
use Rattle.gql_verdict.proofs.shelf.held_pairs.Goals as goal

pub holding-requires : goal.holding-requires
holding-requires g c = known_pairs (g.W.World.facts c.args.world.now) c.args.touched.now c.args.pairs.now c.requires c.in_ok-doubt.doubt c.in_ok-doubt.ensures
