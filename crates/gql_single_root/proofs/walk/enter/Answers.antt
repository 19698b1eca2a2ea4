use Rattle.std.proofs.Common.{bytes_eq}
use Rattle.std.specs.HashMap as hash
use Rattle.std.specs.List.{slice_get}
use Rattle.gql_single_root.proofs.Taking.{entered_none, entered_some}
use Rattle.gql_single_root.proofs.walk.enter.Goals as goal

pub returns-in-None-clause-taken : goal.returns-in-None-clause-taken
returns-in-None-clause-taken g c =
    entered_none (λ q. hash.get_by (λ k. bytes_eq q k.now) c.args.places.now) (g.W.World.facts c.args.world.now) c.args.root.now c.args.members.now
    (slice_get c.args.walk.now.entered.keys c.args.at) _ _ c.in-None.ensures

pub returns-in_ok-add_fragment-in-Some-clause-taken :
    goal.returns-in_ok-add_fragment-in-Some-clause-taken
returns-in_ok-add_fragment-in-Some-clause-taken g c =
    entered_some (λ q. hash.get_by (λ k. bytes_eq q k.now) c.args.places.now) (g.W.World.facts c.args.world.now) c.args.root.now c.args.members.now
    (slice_get c.args.walk.now.entered.keys c.args.at) _ _ _ c.in-Some.ensures c.in_ok-add_fragment-in-Some.ensures.taken
