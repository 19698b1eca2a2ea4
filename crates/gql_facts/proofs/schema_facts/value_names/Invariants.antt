use Rattle.std.proofs.Common.{◌≡◌, take}
use Rattle.gql_facts.specs.Facts.{value_names}
use Rattle.gql_facts.proofs.schema_facts.value_names.Given as goal

abbrev pub invariant-loop-value : goal.invariant-loop-value
invariant-loop-value l = l.names.items ≡ value_names (take l.value-index l.values)
