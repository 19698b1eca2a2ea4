-- What a turn of one connection does: what passes on its socket, and what the hub is fed.
use Rattle.std.specs.Prelude.{◌≡◌, ◌<◌, ◌+◌, ℕ, List, [], ◌++◌, length, Bool, true, Option, None}
use Rattle.gql_wire.specs.Peer.{Passage, Adds, received_in, sent_in}
use Rattle.gql_http.specs.Events.{Event, Does}
use Rattle.gql_http.specs.Hubs.{IsFeedOf, rests_of, service_of}
use Rattle.gql_http.specs.declared.hub.Hub.{Hub}
use Rattle.gql_server.specs.Traffic.{Line}
use Rattle.gql_server.specs.declared.place.End.{End}
use Rattle.gql_server.specs.declared.place.End.TheVariants.{Answered, Ended, Failed, Spent}
use Rattle.gql_server.specs.declared.place.Next.{Next}
use Rattle.gql_server.specs.declared.place.Next.TheVariants.{Ready, Waits, Over}

-- how many reads a connection is served at most
abbrev pub most_reads : ℕ
most_reads = 1048576

-- A connection that is served: what passed on its socket, the bytes that were read and are not fed
-- yet, and the answers that are not written yet; how many reads were made, whether a read or a write
-- has failed, whether the input is at its end, and how many reads and writes found that the socket
-- can give or take nothing at that time.
pub record Talk : Type 0 where
  pub transcript : Option (List Passage)
  pub unfed : List ℕ
  pub unsent : List ℕ
  pub reads : ℕ
  pub has_failed : Bool
  pub ended : Bool
  pub waits : ℕ

-- a connection of whose socket this is known, and of which nothing was read
abbrev pub begun : Line → Talk
begun line = record {
  transcript = line.transcript;
  unfed = [];
  unsent = [];
  reads = 0;
  has_failed = line.has_failed;
  ended = line.ended;
  waits = line.waits;
}

-- what is known of a connection's socket
abbrev pub line_of : Talk → Line
line_of talk = record {
  transcript = talk.transcript;
  has_failed = talk.has_failed;
  ended = talk.ended;
  waits = talk.waits;
}

-- the hub is fed these bytes on the connection, in at most one piece, and answers this
pub data Feeds (before : Hub) (c : ℕ) : List ℕ → List ℕ → Hub → Type 0 where
  feeds_nothing : Feeds before c [] [] before
  feeds_piece : {after : Hub} {piece out : List ℕ} {e : Event} (memory : Bool)
      → IsFeedOf c piece memory e
      → Does (service_of before) (rests_of before) e out (service_of after) (rests_of after)
      → Feeds before c piece out after

-- The connection is over only if nothing is left to write, or if its socket failed: a request or a
-- failed allocation closed it, its input is at its end, or it has had all its reads.
abbrev pub IsOver : End → Talk → Option (List ℕ) → Type 0
IsOver Answered new rest = (new.unsent ≡ []) × (rest ≡ None)
IsOver Ended new rest = (new.unsent ≡ []) × (new.unfed ≡ []) × (new.ended ≡ true)
IsOver Spent new rest = (new.unsent ≡ []) × (new.unfed ≡ []) × (new.reads ≡ most_reads)
IsOver Failed new rest = new.has_failed ≡ true

-- a byte was read, fed or written
abbrev pub MovesBytes : List Passage → List ℕ → Type 0
MovesBytes passed fed = 0 < length (received_in passed) + length fed + length (sent_in passed)

-- What a turn says of the connection, whose unfinished bytes at the hub are `rest`. It asks for
-- another turn only if a byte was moved, and the socket gave or took what it was asked for. It waits
-- only if the socket was asked, and could give or take nothing.
abbrev pub IsNext : Talk → List Passage → List ℕ → Next → Talk → Option (List ℕ) → Type 0
IsNext old passed fed (Over end) new rest = IsOver end new rest
IsNext old passed fed Ready new rest =
    (new.has_failed ≡ old.has_failed) × (new.waits ≡ old.waits) × MovesBytes passed fed
IsNext old passed fed Waits new rest =
    (new.has_failed ≡ old.has_failed) × (old.waits < new.waits)

-- A turn of the connection c. What it read is fed on c, in order, or still to be fed; what it was
-- answered is written to its own socket, in order, or still to be written. `next` says what the
-- connection needs then.
pub record IsTurn (c : ℕ) (before : Hub) (old : Talk) (next : Next) (after : Hub)
    (new : Talk) : Type 0 where
  pub passed : List Passage
  pub fed : List ℕ
  pub out : List ℕ
  pub passes : Adds old.transcript new.transcript passed
  pub feeds : Feeds before c fed out after
  pub reading : old.unfed ++ received_in passed ≡ fed ++ new.unfed
  pub writing : old.unsent ++ out ≡ sent_in passed ++ new.unsent
  pub leads : IsNext old passed fed next new (rests_of after c)
