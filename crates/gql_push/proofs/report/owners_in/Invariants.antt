use Rattle.std.proofs.Common.{◌≡◌, Some, map, take}
use Rattle.serde_json.specs.View.{view}
use Rattle.gql_push.specs.Reports.{owners_in, owners_of}
use Rattle.gql_push.proofs.report.owners_in.Given as goal

abbrev pub invariant-loop-fault : goal.invariant-loop-fault
invariant-loop-fault l = Some (owners_of l.owners.items) ≡ owners_in (map view (take l.fault-index l.faults))
