use Rattle.gql_push.proofs.batch.batch_request.Goals as goal

pub returns-in-None : goal.returns-in-None
returns-in-None c = rw c.in-None.is at c.in_ok-body.ensures
