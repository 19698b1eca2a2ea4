use Rattle.std.proofs.Common.{◌≡◌, flat_map, take}
use Rattle.gql_removal.specs.Removals.{input_of_other}
use Rattle.gql_removal.proofs.named.inputs_of_others.Given as goal

abbrev pub invariant-loop-input : goal.invariant-loop-input
invariant-loop-input l = l.left.items ≡ flat_map (input_of_other l.of_type) (take l.input-index l.inputs)
