-- Helper definitions for private contracts: the steps of a turn.
use Rattle.std.specs.Prelude.{◌≡◌, ◌<◌, ◌+◌, ℕ, List, [], ◌++◌, true, Option, Some, None, Result, Ok, Err, length}
use Rattle.gql_wire.specs.Peer.{Passage, Adds, received_in, sent_in}
use Rattle.gql_http.specs.declared.hub.Hub.{Hub}
use Rattle.gql_server.specs.Turns.{Talk, Feeds}
use Rattle.gql_server.specs.declared.socket.SocketFailed.{SocketFailed}
use Rattle.gql_server.specs.declared.place.Sending.{Sending}
use Rattle.gql_server.specs.declared.place.Sending.TheVariants as sending

-- some of the answers are written, and nothing is read or fed
pub record Writes (old new : Talk) : Type 0 where
  pub passed : List Passage
  pub passes : Adds old.transcript new.transcript passed
  pub no_reads : received_in passed ≡ []
  pub writing : old.unsent ≡ sent_in passed ++ new.unsent
  pub unfed : new.unfed ≡ old.unfed

-- what a write of the answers reports
abbrev pub IsSending : Talk → Result Sending SocketFailed → Talk → Type 0
IsSending old (Ok sending.Done) new =
    (new.has_failed ≡ old.has_failed) × (new.waits ≡ old.waits) × (new.unsent ≡ [])
IsSending old (Ok sending.Part) new = (new.has_failed ≡ old.has_failed)
    × (new.waits ≡ old.waits) × (length new.unsent < length old.unsent)
IsSending old (Ok sending.Waits) new =
    (new.has_failed ≡ old.has_failed) × (new.waits ≡ old.waits + 1)
IsSending old (Err failed) new = new.has_failed ≡ true

-- a piece is read, when all that was read before is fed, and nothing is written
pub record Reads (old new : Talk) : Type 0 where
  pub passed : List Passage
  pub passes : Adds old.transcript new.transcript passed
  pub no_writes : sent_in passed ≡ []
  pub before : old.unfed ≡ []
  pub reading : received_in passed ≡ new.unfed
  pub unsent : new.unsent ≡ old.unsent

-- what a read reports
abbrev pub IsReading : Talk → Result (Option ℕ) SocketFailed → Talk → Type 0
IsReading old (Ok None) new =
    (new.has_failed ≡ old.has_failed) × (new.waits ≡ old.waits + 1)
IsReading old (Ok (Some n)) new = (new.has_failed ≡ old.has_failed)
    × (new.waits ≡ old.waits) × (length new.unfed ≡ n) × (n ≡ 0 → new.ended ≡ true)
IsReading old (Err failed) new = new.has_failed ≡ true

-- the first of what was read is fed, when all answers before are written, and its answers are kept
pub record IsFed (c : ℕ) (before : Hub) (old : Talk) (after : Hub) (new : Talk) : Type 0 where
  pub piece : List ℕ
  pub passes : new.transcript ≡ old.transcript
  pub feeds : Feeds before c piece new.unsent after
  pub fed : old.unfed ≡ piece ++ new.unfed
  pub sent : old.unsent ≡ []
  pub failed : new.has_failed ≡ old.has_failed
  pub waits : new.waits ≡ old.waits
  pub some : 0 < length piece
