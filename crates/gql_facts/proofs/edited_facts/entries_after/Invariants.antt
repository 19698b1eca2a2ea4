use Rattle.std.proofs.Common.{◌≡◌, map, take}
use Rattle.gql_facts.specs.Tables.{type_entry}
use Rattle.gql_facts.proofs.edited_facts.entries_after.Given as goal

abbrev pub invariant-loop-place : goal.invariant-loop-place
invariant-loop-place l = l.entries ≡ map (type_entry l.schema) (take l.place l.schema.types)
