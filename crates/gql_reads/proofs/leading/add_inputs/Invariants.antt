use Rattle.std.proofs.Common.{◌≡◌, take}
use Rattle.gql_facts.specs.Reads.{input_types}
use Rattle.gql_reads.specs.Closings.{add_names}
use Rattle.gql_reads.proofs.leading.add_inputs.Given as goal

abbrev pub invariant-loop-input : goal.invariant-loop-input
invariant-loop-input l = l.names.keys ≡ add_names l.initial.names.keys (input_types (take l.input-index l.inputs))
