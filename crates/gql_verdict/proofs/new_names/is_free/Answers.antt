use Rattle.gql_verdict.proofs.NewFiles.{is_free_if}
use Rattle.gql_verdict.proofs.new_names.is_free.Goals as goal

pub returns : goal.returns
returns g c = is_free_if g.T.HasName.name c.args.name.now c.args.all.now c.get.result _ c.is_none.ensures c.get.ensures
