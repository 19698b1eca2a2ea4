use Rattle.gql_push.specs.Resources.{entries_of}
use Rattle.gql_push.proofs.Finds.{changed_at}
use Rattle.gql_push.proofs.edits.is_edited.Goals as goal

pub returns-then-eq : goal.returns-then-eq
returns-then-eq c =
    changed_at (entries_of c.args.resources.now) c.args.edits.now c.loop-edit.edit-index c.edit-item.result c.target.result.now c.args.target.now c.eq.result c.loop-edit-test.true c.edit-item.is c.target.ensures c.eq.ensures c.if-eq.true
