-- Helper definitions for private contracts: calls, resources and refusals, as specifications see
-- them.
use Rattle.std.specs.Prelude.{ℕ, Option, Some, None}
use Rattle.gql_http.specs.declared.batch.BatchFault.{BatchFault}
use Rattle.gql_http.specs.declared.batch.BatchFault.TheVariants as of_batch
use Rattle.gql_http.specs.declared.run_body.RunBodyFault.{RunBodyFault}
use Rattle.gql_http.specs.declared.run_body.RunBodyFault.TheVariants as fault
use Rattle.gql_http.specs.Answers.{Said, bad_batch, bad_query, bad_run_body, no_route, not_allowed, stored_operations_only}
use Rattle.gql_http.specs.Routes as spec
use Rattle.gql_http.specs.declared.route.Call.{Call}
use Rattle.gql_http.specs.declared.route.Call.TheVariants as call
use Rattle.gql_http.specs.declared.route.EditKind.{EditKind}
use Rattle.gql_http.specs.declared.route.EditKind.TheVariants as kind
use Rattle.gql_http.specs.declared.route.Resource.{Resource}
use Rattle.gql_http.specs.declared.route.Resource.TheVariants as resource
use Rattle.gql_http.specs.declared.route.RouteRefusal.{RouteRefusal}
use Rattle.gql_http.specs.declared.route.RouteRefusal.TheVariants as refusal

-- the number of the refusal of a request that is not a call
abbrev pub route_number : RouteRefusal → ℕ
route_number refusal.NoRoute = 305
route_number (refusal.NotAllowed methods) = 306
route_number refusal.BadQuery = 308

-- the answer to a request that is not a call
abbrev pub route_said : RouteRefusal → Said
route_said refusal.NoRoute = no_route
route_said (refusal.NotAllowed methods) = not_allowed methods
route_said refusal.BadQuery = bad_query

-- the answer to a run whose body is refused; none if an allocation failed
abbrev pub body_said : RunBodyFault → Option Said
body_said fault.BadCall = Some bad_run_body
body_said fault.StoredOnly = Some stored_operations_only
body_said fault.Memory = None

-- the answer to an edit whose body is no batch; none if an allocation failed
abbrev pub batch_said : BatchFault → Option Said
batch_said of_batch.BadBatch = Some bad_batch
batch_said of_batch.Memory = None

-- the number of the refusal of a batch
abbrev pub batch_number : BatchFault → ℕ
batch_number of_batch.BadBatch = 312
batch_number of_batch.Memory = 211

-- what an edit is of, as specifications see it
abbrev pub kind_said : EditKind → spec.EditKind
kind_said (kind.Put side name) = spec.put side name
kind_said (kind.Remove side name) = spec.remove side name
kind_said kind.PutData = spec.put_data
kind_said kind.Batch = spec.batch

-- a call, as specifications see it
abbrev pub call_said : Call → spec.Call
call_said call.Report = spec.report
call_said (call.Edit of expected) = spec.edit (kind_said of) expected
call_said call.Run = spec.run
call_said (call.Refused r) = spec.refused (route_said r)

-- a resource, as specifications see it
abbrev pub resource_said : Resource → spec.Resource
resource_said resource.Nothing = spec.nothing
resource_said resource.Report = spec.the_report
resource_said resource.Data = spec.the_data
resource_said resource.Run = spec.the_run
resource_said resource.Edits = spec.the_edits
resource_said (resource.File side name) = spec.file side name
