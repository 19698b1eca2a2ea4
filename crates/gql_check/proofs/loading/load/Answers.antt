use Rattle.gql_check.proofs.Refused.{load_fault}
use Rattle.gql_check.proofs.loading.load.Goals as goal

pub returns-clause-err : goal.returns-clause-err
returns-clause-err c =
    load_fault c.args.profile c.args.given.now c.args.folder.now c.in_ok-puts.puts c.in_ok-puts.ensures c.put_fault.result c.put_fault.ensures
