use Rattle.std.proofs.Common.{◌≡◌, map, take}
use Rattle.gql_findings.specs.Keys.{marks_of}
use Rattle.gql_findings.specs.Marks.{fault_mark}
use Rattle.gql_findings.proofs.marks.fault_keys.Given as goal

abbrev pub invariant-loop-finding : goal.invariant-loop-finding
invariant-loop-finding l = marks_of l.keys.items ≡ map (fault_mark l.sources) (take l.finding-index l.finding-items)
