-- The rounds of a server: in each, the connections that wait are accepted, and each connection that
-- is ready has its turn.
use Rattle.std.specs.Prelude.{ℕ, ◌≡◌, ◌≤◌, ◌⊎◌, List, [], Bool, true, false, Option, Some, None, get_or, length, Result, Ok, Err}
use Rattle.gql_http.specs.declared.hub.Hub.{Hub}
use Rattle.gql_server.specs.Rooms.{AreOver, Runs, Talks, talks_of}
use Rattle.gql_server.specs.Seated.{Seated}
use Rattle.gql_server.specs.Seats.{HaveTheirTurns}
use Rattle.gql_server.specs.Traffic.{Traffic, joined, no_traffic, reports_one}
use Rattle.gql_server.specs.declared.fault.ServeFault.{ServeFault}
use Rattle.gql_server.specs.declared.report.Report.{Report}

-- the seats, each under the number of the connection that has it
abbrev pub Seats : Type 0
Seats = List (Option Seated)

-- nobody has a seat
abbrev pub AreFree : Seats → Type 0
AreFree seats = (c : ℕ) → get_or seats c None ≡ None

-- nobody has the seat, or its connection is not ready, with nothing left to feed or to write
abbrev pub IsIdle : Option Seated → Type 0
IsIdle None = Unit {0}
IsIdle (Some seat) =
    (seat.is_ready ≡ false) × (seat.talk.unfed ≡ []) × (seat.talk.unsent ≡ [])

-- nobody has the seat, or its connection is ready
abbrev pub IsFresh : Option Seated → Type 0
IsFresh None = Unit {0}
IsFresh (Some seat) = seat.is_ready ≡ true

-- A seat is as it was; or it was idle, and another connection has it, which is ready, or nobody.
abbrev pub IsAdmitted : Option Seated → Option Seated → Type 0
IsAdmitted old new = (new ≡ old) ⊎ (IsIdle old × IsFresh new)

-- Connections are accepted. Each gets a seat that was idle, and no connection that is ready loses
-- its own.
pub record Admits (bound : ℕ) (a : Hub) (old : Seats) (traffic : Traffic) (b : Hub)
    (new : Seats) : Type 0 where
  pub runs : Runs bound a (talks_of old) traffic b (talks_of new)
  pub seats : (c : ℕ) → IsAdmitted (get_or old c None) (get_or new c None)

-- A round: connections are accepted, and then each connection that is ready has its turn. What the
-- turns do is among the things that happen, one after the other.
pub record IsRound (bound : ℕ) (a : Hub) (old : Seats) (traffic : Traffic) (b : Hub)
    (new : Seats) : Type 0 where
  pub between : Hub
  pub admitted : Seats
  pub coming : Traffic
  pub going : Traffic
  pub admits : Admits bound a old coming between admitted
  pub runs : Runs bound between (talks_of admitted) going b (talks_of new)
  pub turns : HaveTheirTurns bound admitted new
  pub traffic_is : traffic ≡ joined coming going

-- a connection is ready if its socket is reported, and as it was if not
abbrev pub IsNoted : Bool → Option Seated → Option Seated → Type 0
IsNoted false old new = new ≡ old
IsNoted true None new = new ≡ None
IsNoted true (Some seat) new = new ≡ Some (record seat { is_ready = true })

-- the connections whose sockets a wait reports are ready, and the others are as they were
abbrev pub AreNoted : Report → Seats → Seats → Type 0
AreNoted report old new =
    (c : ℕ) → IsNoted (get_or report.sockets c false) (get_or old c None) (get_or new c None)

-- rounds with a wait after each
pub data Rounds (bound : ℕ) (a : Hub) (first : Seats) : Traffic → Hub → Seats → Type 0 where
  no_round : Rounds bound a first no_traffic a first
  next_round : {s t : Traffic} {b d : Hub} {before after noted : Seats} (report : Report)
      → Rounds bound a first s b before → IsRound bound b before t d after
      → AreNoted report after noted
      → Rounds bound a first (joined s (joined t (reports_one report))) d noted

-- How serving ends: after a round in which the last of all connections left; or because of a fault,
-- in a round or while connections are accepted.
abbrev pub Ends : ℕ → Result (Unit {0}) ServeFault → Hub → Seats → Traffic → Hub → Seats → Type 0
Ends bound (Ok done) a old traffic b new = IsRound bound a old traffic b new × AreFree new
Ends bound (Err fault) a old traffic b new =
    IsRound bound a old traffic b new ⊎ Admits bound a old traffic b new

-- how many connections were accepted: all of them, or at most as many if there was a fault
abbrev pub AreAccepted : ℕ → Result (Unit {0}) ServeFault → Traffic → Type 0
AreAccepted many (Ok done) traffic = length traffic.accepted ≡ many
AreAccepted many (Err fault) traffic = length traffic.accepted ≤ many

-- What a server does until it ends: rounds with a wait after each, the first with free seats, and
-- then the last round.
pub record Serves (bound many : ℕ) (a : Hub) (result : Result (Unit {0}) ServeFault)
    (traffic : Traffic) (b : Hub) (last : Seats) : Type 0 where
  pub first : Seats
  pub free : AreFree first
  pub between : Hub
  pub noted : Seats
  pub during : Traffic
  pub ending : Traffic
  pub rounds : Rounds bound a first during between noted
  pub ends : Ends bound result between noted ending b last
  pub traffic_is : traffic ≡ joined during ending
  pub count : AreAccepted many result traffic

-- The same, and in the end the connections that are left are closed, and their sockets taken back.
pub record IsServed (bound many : ℕ) (a : Hub) (result : Result (Unit {0}) ServeFault)
    (traffic : Traffic) (b : Hub) : Type 0 where
  pub between : Hub
  pub left : Seats
  pub last : Talks
  pub serving : Traffic
  pub closing : Traffic
  pub serves : Serves bound many a result serving between left
  pub closes : Runs bound between (talks_of left) closing b last
  pub over : AreOver bound last
  pub none_accepted : closing.accepted ≡ []
  pub traffic_is : traffic ≡ joined serving closing
