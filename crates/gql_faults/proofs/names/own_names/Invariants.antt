use Rattle.std.proofs.Common.{◌≡◌, map, take}
use Rattle.gql_faults.specs.Faults.{own_name_of}
use Rattle.gql_faults.specs.Places.{named}
use Rattle.gql_faults.proofs.names.own_names.Given as goal

abbrev pub invariant-loop-node : goal.invariant-loop-node
invariant-loop-node g l =
    map named l.places.items ≡ map (own_name_of g.T.HasOwnName.own_name) (take l.node-index l.nodes)
