use Rattle.gql_merge.proofs.Indexing.{own_fragment, own_operation}
use Rattle.gql_merge.proofs.flatten.own_sets.Goals as goal

pub returns-in_ok-add_operation-in-Operation-clause-drawn :
    goal.returns-in_ok-add_operation-in-Operation-clause-drawn
returns-in_ok-add_operation-in-Operation-clause-drawn g c =
    own_operation (g.W.World.facts c.args.world.now) c.args.definition.now c.in-Operation.operation c.get.result.now _ _ _
    c.in-Operation.is c.get.ensures c.new-sets.ensures.items c.in_ok-add_operation-in-Operation.ensures.added

pub returns-in_ok-add_fragment-in-Fragment-clause-drawn :
    goal.returns-in_ok-add_fragment-in-Fragment-clause-drawn
returns-in_ok-add_fragment-in-Fragment-clause-drawn g c =
    own_fragment (g.W.World.facts c.args.world.now) c.args.definition.now c.in-Fragment.fragment c.get-in-Fragment.result.now _ _ _
    c.in-Fragment.is c.get-in-Fragment.ensures c.new-sets.ensures.items c.in_ok-add_fragment-in-Fragment.ensures.added
