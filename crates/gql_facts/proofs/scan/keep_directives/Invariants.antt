use Rattle.std.proofs.Common.{◌≡◌, take}
use Rattle.gql_facts.specs.OwnReads.{directive_reads}
use Rattle.gql_facts.specs.Scans.{add_keys}
use Rattle.gql_facts.proofs.scan.keep_directives.Given as goal

abbrev pub invariant-loop-directive : goal.invariant-loop-directive
invariant-loop-directive l = l.keys.keys ≡ add_keys l.initial.keys.keys (directive_reads (take l.directive-index l.directives))
