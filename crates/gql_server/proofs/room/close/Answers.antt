use Rattle.gql_http.proofs.PipeConnections.{closed_after}
use Rattle.gql_server.proofs.Going.{closed_still}
use Rattle.gql_server.proofs.room.close.Goals as goal

pub returns-clause-closed : goal.returns-clause-closed
returns-clause-closed c = (closed_after _ _ _ _ _ _ c.close.ensures).0

pub returns-clause-others : goal.returns-clause-others
returns-clause-others c = closed_still _ _ _ _ _ _ c.close.ensures
