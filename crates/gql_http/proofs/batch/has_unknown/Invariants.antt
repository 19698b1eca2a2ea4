use Rattle.std.proofs.Common.{◌≡◌}
use Rattle.serde_json.specs.View.{members_view}
use Rattle.gql_http.specs.Batches.{has_unknown}
use Rattle.gql_http.proofs.batch.has_unknown.Given as goal

abbrev pub invariant-loop-name : goal.invariant-loop-name
invariant-loop-name l = has_unknown (members_view l.name-iterator) ≡ has_unknown (members_view l.members.entries)
