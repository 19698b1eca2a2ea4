use Rattle.gql_push.proofs.Finds.{gone}
use Rattle.gql_push.proofs.edits.is_gone.Goals as goal

pub returns : goal.returns
returns c = gone c.args.resources.now c.args.before.now c.as_str.result.now c.find_target.result c.is_none.result c.as_str.ensures.value c.find_target.ensures c.is_none.ensures
