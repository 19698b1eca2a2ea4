use Rattle.std.proofs.Common.{◌≡◌, ◌++◌, take}
use Rattle.gql_push.specs.Plans.{changes_of, kept, put_among}
use Rattle.gql_push.specs.Resources.{entries_of}
use Rattle.gql_push.proofs.edits.pushed_after.Given as goal

abbrev pub invariant-loop-before : goal.invariant-loop-before
invariant-loop-before l = entries_of l.after.items ≡ kept (entries_of l.resources) (entries_of (take l.before-index l.pushed)) (changes_of l.made)

abbrev pub invariant-loop-edit : goal.invariant-loop-edit
invariant-loop-edit l = entries_of l.after.items
    ≡ kept (entries_of l.resources) (entries_of l.fn.pushed) (changes_of l.fn.made) ++ put_among (entries_of l.resources) (changes_of (take l.edit-index l.made))
