use Rattle.std.proofs.Common.{Contains, bytes_eq, map, take}
use Rattle.std.specs.HashMap as hash
use Rattle.gql_single_root.specs.Walks.{Takes}
use Rattle.gql_single_root.proofs.walk.add_all.Given as goal

abbrev pub invariant-loop-selection : goal.invariant-loop-selection
invariant-loop-selection l = Takes (λ q. hash.get_by (λ k. bytes_eq q k.now) l.places) l.file
    (Contains (map (λ x. x.now) (take l.selection-index l.found))) l.initial.walk l.walk
