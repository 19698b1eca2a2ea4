use Rattle.std.proofs.Common.{ap}
use Rattle.gql_http.specs.Events.{Connections}
use Rattle.tables_service.proofs.pipes.piped.Goals as goal

pub pipe-ended-requires-clause-closed : goal.pipe-ended-requires-clause-closed
pipe-ended-requires-clause-closed c = ap (λ (all : Connections). all 0) c.new-hub.ensures.closed
