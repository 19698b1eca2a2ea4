use Rattle.std.proofs.Common.{◌≡◌, ◌++◌, take, map, flat_map}
use Rattle.gql_faults.specs.Places.{named}
use Rattle.gql_inputs.specs.BadValues.{repeat}
use Rattle.gql_inputs.proofs.repeats.add_all_repeats.Given as goal

abbrev pub invariant-loop-name : goal.invariant-loop-name
invariant-loop-name l = l.found.items ≡ l.initial.found.items ++ flat_map repeat (map named (take l.name-index l.names))
