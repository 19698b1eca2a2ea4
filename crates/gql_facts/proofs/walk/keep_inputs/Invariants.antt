use Rattle.std.proofs.Common.{◌≡◌, flat_map, take}
use Rattle.gql_facts.specs.Reads.{type_reads, input_types}
use Rattle.gql_facts.specs.Scans.{add_keys}
use Rattle.gql_facts.proofs.walk.keep_inputs.Given as goal

abbrev pub invariant-loop-input : goal.invariant-loop-input
invariant-loop-input l = l.keys.keys ≡ add_keys l.initial.keys.keys (flat_map type_reads (input_types (take l.input-index l.inputs)))
