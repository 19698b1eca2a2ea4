use Rattle.std.proofs.Common.{◌≡◌, drop}
use Rattle.json.specs.Value.{members_view}
use Rattle.gql_http.specs.Batches.{files_repeat}
use Rattle.gql_http.proofs.twice.files_repeat.Given as goal

abbrev pub invariant-loop-name : goal.invariant-loop-name
invariant-loop-name l = files_repeat (members_view (drop l.name-index l.members)) ≡ files_repeat (members_view l.members)
