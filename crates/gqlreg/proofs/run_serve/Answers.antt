use Rattle.std.proofs.Common.{ap}
use Rattle.gql_http.specs.Events.{Connections}
use Rattle.gqlreg.proofs.run_serve.Goals as goal

pub serve_in_turn-served-requires : goal.serve_in_turn-served-requires
serve_in_turn-served-requires c = ap (λ (all : Connections). all 0) c.new-hub.ensures.closed

pub serve_at_once-served-requires-clause-closed : goal.serve_at_once-served-requires-clause-closed
serve_at_once-served-requires-clause-closed c =
    λ i less. ap (λ (all : Connections). all i) c.new-hub.ensures.closed
