use Rattle.std.proofs.Common.{take}
use Rattle.gql_node_rules.specs.SchemaChanges.{NamesInputs}
use Rattle.gql_node_rules.proofs.schema_change.other_inputs.Given as goal

abbrev pub invariant-loop-name : goal.invariant-loop-name
invariant-loop-name l = NamesInputs l.before l.after (take l.name-index l.names) l.found.items
