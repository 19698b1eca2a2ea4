use Rattle.std.proofs.Common.{◌≡◌, flat_map, take}
use Rattle.gql_removal.specs.Removals.{other_name}
use Rattle.gql_removal.proofs.named.names_but.Given as goal

abbrev pub invariant-loop-other : goal.invariant-loop-other
invariant-loop-other l = l.left.items ≡ flat_map (other_name l.name) (take l.other-index l.names)
