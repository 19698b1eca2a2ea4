-- The connections that are served at one time: each has a number of the hub, from the time when it is
-- accepted until it is closed.
use Rattle.std.specs.Prelude.{ℕ, ◌≡◌, ◌<◌, ◌==◌, ◌⊎◌, if◌then◌else◌, List, [], Option, Some, None, get_or, option_map}
use Rattle.gql_http.specs.Events.{opens, closes, Does}
use Rattle.gql_http.specs.Hubs.{rests_of, service_of}
use Rattle.gql_http.specs.declared.hub.Hub.{Hub}
use Rattle.gql_server.specs.Seated.{Seated}
use Rattle.gql_server.specs.Traffic.{Line, Traffic, accepts, joined, no_traffic, reports_one, returns}
use Rattle.gql_server.specs.Turns.{IsTurn, Talk, begun, line_of}
use Rattle.gql_server.specs.declared.place.Next.{Next}
use Rattle.gql_server.specs.declared.report.Report.{Report}

-- the connection of each number; none where no connection has it
abbrev pub Talks : Type 0
Talks = ℕ → Option Talk

-- no connection has a number
abbrev pub no_talks : Talks
no_talks c = None

-- the connections, one of which is changed
abbrev pub with_talk : Talks → ℕ → Option Talk → Talks
with_talk talks c talk = λ other. if other == c then talk else talks other

-- the socket of the connection is taken back, if there is one
abbrev pub taken_back : Option Talk → Traffic
taken_back None = no_traffic
taken_back (Some talk) = returns (line_of talk)

-- One thing that happens to the connection of the number c, and what the network did with sockets in
-- it. All other connections are as they were.
pub data Happens (c : ℕ) (a : Hub) (talks : Talks) : Traffic → Hub → Talks → Type 0 where
  -- a connection is accepted and gets the number, which no other has; nothing was read of it yet
  sits : {b : Hub} (line : Line) → talks c ≡ None
      → Does (service_of a) (rests_of a) (opens c) [] (service_of b) (rests_of b)
      → Happens c a talks (accepts line) b (with_talk talks c (Some (begun line)))
  -- a connection is accepted and gets no number, since its socket is not watched or an allocation
  -- fails: the socket is taken back as it was
  is_turned_away : (line : Line) → Happens c a talks (joined (accepts line) (returns line)) a talks
  -- it has a turn: what it read is fed under this number, and the answers are its own; unless it is
  -- over, or its socket could move nothing, it read, fed or wrote at least one byte
  turns : {b : Hub} (old new : Talk) (next : Next) → talks c ≡ Some old → IsTurn c a old next b new
      → Happens c a talks no_traffic b (with_talk talks c (Some new))
  -- its number is closed, it has it no more, and its socket is taken back
  leaves : {b : Hub} → Does (service_of a) (rests_of a) (closes c) [] (service_of b) (rests_of b)
      → Happens c a talks (taken_back (talks c)) b (with_talk talks c None)

-- what happens to connections with numbers below the bound, one thing after the other
pub data Runs (bound : ℕ) (a : Hub) (talks : Talks) : Traffic → Hub → Talks → Type 0 where
  nothing_happens : Runs bound a talks no_traffic a talks
  then_happens : {s t : Traffic} {b d : Hub} {between last : Talks} (c : ℕ)
      → Runs bound a talks s b between → c < bound → Happens c b between t d last
      → Runs bound a talks (joined s t) d last
  -- the network waits, and reports which sockets may be ready: nothing happens to a connection
  then_waits : {s : Traffic} {b : Hub} {last : Talks} (report : Report) → Runs bound a talks s b last
      → Runs bound a talks (joined s (reports_one report)) b last

-- no connection has a number below the bound
abbrev pub AreOver : ℕ → Talks → Type 0
AreOver bound talks = (c : ℕ) → c < bound → talks c ≡ None

-- What happens from the time when no connection has a number until none below the bound has one
-- again.
abbrev pub RunsThrough : ℕ → Hub → Traffic → Hub → Type 0
RunsThrough bound a traffic b =
    (last : Talks) × Runs bound a no_talks traffic b last × AreOver bound last

-- ---- what the code has of the connections, for private contracts

-- the connection of a seat, if somebody has it
abbrev pub talk_in : Option Seated → Option Talk
talk_in = option_map (λ (seat : Seated). seat.talk)

-- the connections of seats, each under the number that is its index
abbrev pub talks_of : List (Option Seated) → Talks
talks_of seats = λ c. talk_in (get_or seats c None)

-- what happens to the connection of the number c, which was this and is that
abbrev pub Moves : ℕ → ℕ → Hub → Option Talk → Traffic → Hub → Option Talk → Type 0
Moves bound c a old traffic b new =
    (talks : Talks) → talks c ≡ old → Runs bound a talks traffic b (with_talk talks c new)

-- the connection has a turn, or nothing happens to it
abbrev pub TurnsOrStays : ℕ → Hub → Talk → Hub → Talk → Type 0
TurnsOrStays c a old b new =
    ((next : Next) × IsTurn c a old next b new) ⊎ ((b ≡ a) × (new ≡ old))
