use Rattle.std.proofs.Common.{◌≡◌, take}
use Rattle.std.specs.HashSet.{contains}
use Rattle.std.specs.List.{list_any}
use Rattle.gql_ast.specs.declared.fault.FilePlace.{FilePlace}
use Rattle.gql_serving.specs.Owners.{same_place}
use Rattle.gql_serving.proofs.owner.Owners.at.Given as goal

abbrev pub invariant-loop-owner : goal.invariant-loop-owner
invariant-loop-owner l = (p : FilePlace) → contains same_place l.places p ≡ list_any (same_place p) (take l.owner-index l.owners)
