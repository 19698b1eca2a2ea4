use Rattle.std.proofs.Common.{◌≡◌, take}
use Rattle.gql_push.specs.Plans.{put_again}
use Rattle.gql_push.specs.Resources.{entries_of}
use Rattle.gql_push.proofs.edits.to_put_again.Given as goal

abbrev pub invariant-loop-before : goal.invariant-loop-before
invariant-loop-before l = entries_of l.again.items ≡ put_again (entries_of (take l.before-index l.pushed))
