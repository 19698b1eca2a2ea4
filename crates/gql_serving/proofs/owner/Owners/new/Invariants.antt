use Rattle.std.proofs.Common.{◌≡◌, take}
use Rattle.std.specs.HashSet.{contains}
use Rattle.std.specs.List.{list_any}
use Rattle.gql_ast.specs.declared.fault.FilePlace.{FilePlace}
use Rattle.gql_serving.specs.Owners.{is_owner, same_place}
use Rattle.gql_serving.proofs.owner.Owners.new.Given as goal

abbrev pub invariant-loop-fault : goal.invariant-loop-fault
invariant-loop-fault l = (p : FilePlace) → contains same_place l.places p ≡ list_any (is_owner p) (take l.fault-index l.faults)
