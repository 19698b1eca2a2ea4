use Rattle.std.proofs.Common.{bytes_eq, map, take}
use Rattle.std.specs.HashMap as hash
use Rattle.gql_merge.specs.SpreadNames.{names_of}
use Rattle.gql_merge.specs.SpreadPlaces.{AreSpreadFrom}
use Rattle.gql_merge.proofs.spreading.spread_by_each.Given as goal

abbrev pub invariant-loop-set : goal.invariant-loop-set
invariant-loop-set l = AreSpreadFrom l.members (λ q. hash.get_by (λ k. bytes_eq q k.now) l.places) l.bodies (map names_of (take l.set-index l.sets)) l.found.items
