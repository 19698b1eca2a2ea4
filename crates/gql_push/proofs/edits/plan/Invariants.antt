use Rattle.std.proofs.Common.{◌≡◌, ◌++◌, take}
use Rattle.gql_push.specs.Plans.{changes_of, puts, removals}
use Rattle.gql_push.specs.Resources.{entries_of}
use Rattle.gql_push.proofs.edits.plan.Given as goal

abbrev pub invariant-loop-at : goal.invariant-loop-at
invariant-loop-at l = changes_of l.edits.items ≡ puts l.all (entries_of (take l.at l.resources)) (entries_of l.pushed)

abbrev pub invariant-loop-before : goal.invariant-loop-before
invariant-loop-before l = changes_of l.edits.items
    ≡ puts l.all (entries_of l.resources) (entries_of l.fn.pushed) ++ removals (entries_of l.resources) (entries_of (take l.before-index l.pushed))
