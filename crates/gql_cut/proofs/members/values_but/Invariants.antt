use Rattle.std.proofs.Common.{◌≡◌, flat_map, take}
use Rattle.gql_cut.specs.Cuts.{other_value}
use Rattle.gql_cut.proofs.members.values_but.Given as goal

abbrev pub invariant-loop-value : goal.invariant-loop-value
invariant-loop-value l = l.left.items ≡ flat_map (other_value l.name) (take l.value-index l.values)
