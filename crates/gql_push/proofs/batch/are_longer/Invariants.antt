use Rattle.std.proofs.Common.{◌≡◌, drop, nat_lt}
use Rattle.gql_push.specs.Batches as spec
use Rattle.gql_push.specs.Plans.{changes_of}
use Rattle.gql_push.specs.Resources.{entries_of}
use Rattle.gql_push.proofs.batch.are_longer.Given as goal

abbrev pub invariant-loop-edit : goal.invariant-loop-edit
invariant-loop-edit l = nat_lt l.most (spec.count_put (entries_of l.resources) l.files (changes_of l.edits))
    ≡ nat_lt l.left (spec.count_put (entries_of l.resources) l.files (changes_of (drop l.edit-index l.edits)))
