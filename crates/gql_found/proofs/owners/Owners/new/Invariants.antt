use Rattle.std.proofs.Common.{◌≡◌, take}
use Rattle.gql_ast.specs.declared.definition.Definition.{Definition}
use Rattle.gql_found.specs.Owners.{is_owner}
use Rattle.gql_found.specs.Steps.{is_marked}
use Rattle.gql_found.proofs.owners.Owners.new.Given as goal

abbrev pub invariant-loop-fault : goal.invariant-loop-fault
invariant-loop-fault l = (d : Definition) → is_marked l.marks d ≡ is_owner (take l.fault-index l.faults) d
