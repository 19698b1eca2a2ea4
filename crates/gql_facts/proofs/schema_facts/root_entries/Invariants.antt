use Rattle.std.proofs.Common.{◌≡◌, map, take}
use Rattle.gql_facts.specs.Tables.{root_entry}
use Rattle.gql_facts.proofs.schema_facts.root_entries.Given as goal

abbrev pub invariant-loop-root : goal.invariant-loop-root
invariant-loop-root l = l.entries ≡ map root_entry (take l.root-index l.roots)
