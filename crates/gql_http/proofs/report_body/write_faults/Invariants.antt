use Rattle.std.proofs.Common.{◌≡◌, ◌++◌, take, codes}
use Rattle.std.specs.List.{flat_map}
use Rattle.gql_ast.specs.declared.fault.Fault.{Fault}
use Rattle.gql_http.specs.Json.{fault_text}
use Rattle.gql_http.proofs.report_body.write_faults.Given as goal

abbrev pub invariant-loop-fault : goal.invariant-loop-fault
invariant-loop-fault l = l.out.items ≡ l.initial.out.items ++ flat_map (λ (p : Fault). codes "," ++ fault_text p) (take l.fault-index l.rest)
