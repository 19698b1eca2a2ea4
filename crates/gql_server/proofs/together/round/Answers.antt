use Rattle.gql_server.proofs.Growing.{grows_join}
use Rattle.gql_server.proofs.Rounding.{count_same, round_of}
use Rattle.gql_server.specs.Traffic.{joined}
use Rattle.gql_server.proofs.together.round.Goals as goal

pub returns : goal.returns
returns g c = let admits = c.in_ok-admit.ensures in let turns = c.turns.ensures.runs in (
  joined admits.0 turns.0,
  grows_join _ _ _ admits.0 turns.0 admits.1 turns.1,
  round_of _ _ _ _ _ _ _ admits.0 turns.0 admits.2 turns.2 c.turns.ensures.turns,
  count_same admits.0 turns.0 _ _ admits.3 turns.3,
)
