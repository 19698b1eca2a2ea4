use Rattle.gql_push.proofs.Names.{stripped}
use Rattle.gql_push.proofs.batch.name_after.Goals as goal

pub returns : goal.returns
returns c = stripped c.args.prefix.now c.args.target.now c.strip_prefix.result c.strip_prefix.ensures.cases
