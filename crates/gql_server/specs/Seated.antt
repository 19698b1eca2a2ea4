-- A connection that has a seat.
use Rattle.std.specs.Prelude.{ℕ, Bool}
use Rattle.gql_server.specs.Turns.{Talk}

-- the connection, whether it has a turn before the next wait, and when bytes came or went last, in
-- nanoseconds of the clock
pub record Seated : Type 0 where
  pub talk : Talk
  pub is_ready : Bool
  pub since : ℕ
