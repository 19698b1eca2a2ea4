use Rattle.std.proofs.Common.{◌≡◌}
use Rattle.serde_json.specs.View.{members_view}
use Rattle.gql_registry.specs.Changes.{edit_of}
use Rattle.gql_http.specs.Batches.{file_changes}
use Rattle.gql_http.proofs.BatchLists.{after}
use Rattle.gql_http.proofs.batch.add_changes.Given as goal

abbrev pub invariant-loop-name : goal.invariant-loop-name
invariant-loop-name l =
    after (edit_of l.edit.items) (file_changes l.most l.side (members_view l.name-iterator))
    ≡ after (edit_of l.initial.edit.items) (file_changes l.most l.side (members_view l.files.entries))
