use Rattle.std.proofs.Common.{◌≡◌, flat_map, take}
use Rattle.gql_facts.specs.OwnReads.{variable_reads}
use Rattle.gql_facts.specs.Scans.{add_keys}
use Rattle.gql_facts.proofs.scan.keep_variables.Given as goal

abbrev pub invariant-loop-variable : goal.invariant-loop-variable
invariant-loop-variable l = l.keys.keys ≡ add_keys l.initial.keys.keys (flat_map variable_reads (take l.variable-index l.variables))
