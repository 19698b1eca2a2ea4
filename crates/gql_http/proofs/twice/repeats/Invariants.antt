use Rattle.std.proofs.Common.{◌≡◌, drop}
use Rattle.json.specs.Strict.{keys}
use Rattle.json.specs.Value.{members_view}
use Rattle.gql_http.specs.Batches.{repeats}
use Rattle.gql_http.proofs.FoundNames.{repeats_after}
use Rattle.gql_http.proofs.twice.repeats.Given as goal

abbrev pub invariant-loop-name : goal.invariant-loop-name
invariant-loop-name l =
    repeats_after l.names.keys (keys (members_view (drop l.name-index l.members))) ≡ repeats (keys (members_view l.members))
