use Rattle.std.proofs.Common.{ap}
use Rattle.gql_http.specs.Events.{Connections}
use Rattle.tables_service.proofs.servers.serves_answer.Goals as goal

pub serve_at_once-requires : goal.serve_at_once-requires
serve_at_once-requires c = λ i less. ap (λ (all : Connections). all i) c.new-hub.ensures.closed

pub serve_in_turn-requires : goal.serve_in_turn-requires
serve_in_turn-requires c = ap (λ (all : Connections). all 0) c.new-hub.ensures.closed
