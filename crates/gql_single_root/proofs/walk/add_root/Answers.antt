use Rattle.std.proofs.Common.{bytes_eq}
use Rattle.std.specs.HashMap as hash
use Rattle.gql_single_root.proofs.Taking.{takes_root}
use Rattle.gql_single_root.proofs.walk.add_root.Goals as goal

pub returns-clause-taken : goal.returns-clause-taken
returns-clause-taken g c =
    takes_root (λ q. hash.get_by (λ k. bytes_eq q k.now) c.args.places.now) c.args.file.now (g.W.World.facts c.args.world.now) c.args.root.now c.args.set.now
    c.new-found.result.items c.add_set.new.found.items c.as_slice.result.now _ _ c.new-found.ensures.items c.in_ok-add_set.ensures.added c.as_slice.ensures.value c.in_ok-add_all.ensures
