use Rattle.std.proofs.Common.{◌≡◌, flat_map, take}
use Rattle.gql_cut.specs.Cuts.{other_input}
use Rattle.gql_cut.proofs.members.inputs_but.Given as goal

abbrev pub invariant-loop-input : goal.invariant-loop-input
invariant-loop-input l = l.left.items ≡ flat_map (other_input l.name) (take l.input-index l.inputs)
