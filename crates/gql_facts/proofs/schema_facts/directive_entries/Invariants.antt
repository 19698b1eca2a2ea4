use Rattle.std.proofs.Common.{◌≡◌, map, take}
use Rattle.gql_facts.specs.Tables.{directive_entry}
use Rattle.gql_facts.proofs.schema_facts.directive_entries.Given as goal

abbrev pub invariant-loop-directive : goal.invariant-loop-directive
invariant-loop-directive l = l.entries.items ≡ map directive_entry (take l.directive-index l.directive-items)
