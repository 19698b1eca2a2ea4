use Rattle.std.proofs.Common.{◌≡◌, false, take}
use Rattle.gql_push.specs.Plans.{changes_of, is_changed}
use Rattle.gql_push.specs.Resources.{entries_of}
use Rattle.gql_push.proofs.edits.is_edited.Given as goal

abbrev pub invariant-loop-edit : goal.invariant-loop-edit
invariant-loop-edit l = is_changed (entries_of l.resources) (changes_of (take l.edit-index l.edits)) l.target ≡ false
