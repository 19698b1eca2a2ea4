use Rattle.std.proofs.Common.{◌≡◌, map, take}
use Rattle.gql_findings.specs.Keys.{marks_of}
use Rattle.gql_findings.specs.Marks.{operation_mark}
use Rattle.gql_findings.proofs.marks.affected_keys.Given as goal

abbrev pub invariant-loop-operation : goal.invariant-loop-operation
invariant-loop-operation l = marks_of l.keys.items ≡ map (λ o. operation_mark o.name) (take l.operation-index l.operation-items)
