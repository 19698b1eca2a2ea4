use Rattle.std.proofs.Common.{ap}
use Rattle.gql_http.specs.Events.{Connections}
use Rattle.tables_service.proofs.networks.network_answer.Goals as goal

pub served_on-requires-clause-closed : goal.served_on-requires-clause-closed
served_on-requires-clause-closed c =
    λ i less. ap (λ (all : Connections). all i) c.new-hub.ensures.closed
