use Rattle.std.proofs.Common.{map, take}
use Rattle.std.specs.List.{AllZip}
use Rattle.gql_found.specs.Findings.{IsFinding}
use Rattle.gql_found.proofs.finding.findings_of.Given as goal

abbrev pub invariant-loop-fault : goal.invariant-loop-fault
invariant-loop-fault l = AllZip (IsFinding l.sources l.files (map (λ d. d.now) l.definitions)) (take l.fault-index l.faults) l.findings.items
