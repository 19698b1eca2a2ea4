use Rattle.std.proofs.Common.{◌≡◌, drop}
use Rattle.gql_push.specs.Batches as spec
use Rattle.gql_push.specs.BatchValues.{said_by}
use Rattle.gql_push.specs.Plans.{changes_of}
use Rattle.gql_push.specs.Resources.{entries_of}
use Rattle.gql_push.proofs.batch.batch_with.Given as goal

abbrev pub invariant-loop-edit : goal.invariant-loop-edit
invariant-loop-edit l = spec.with_changes (entries_of l.resources) l.files spec.no_changes (changes_of l.edits)
    ≡ spec.with_changes (entries_of l.resources) l.files (said_by l.batch) (changes_of (drop l.edit-index l.edits))
