use Rattle.std.proofs.Common.{◌≡◌, map, take}
use Rattle.gql_facts.specs.Tables.{type_entry}
use Rattle.gql_facts.proofs.schema_facts.type_entries.Given as goal

abbrev pub invariant-loop-of_type : goal.invariant-loop-of_type
invariant-loop-of_type l = l.entries ≡ map (type_entry l.schema) (take l.of_type-index l.of_type-items)
