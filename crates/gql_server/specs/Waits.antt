-- How long a server waits for the next event.
use Rattle.std.specs.Prelude.{ℕ, ◌≡◌, ◌<◌, ◌≤◌, ◌-◌, if◌then◌else◌, List, Option, Some, None, IfSome, get_or, nat_lt, option_map}
use Rattle.std.specs.Duration.{as_nanos}
use Rattle.std.specs.Time.{instant_nanos}
use Rattle.std.specs.declared.time.Duration.{Duration}
use Rattle.std.specs.declared.time.Instant.{Instant}
use Rattle.gql_server.specs.Seated.{Seated}

-- the shorter of two waits; none is a wait without end
abbrev pub shorter : Option Duration → Duration → Option Duration
shorter None other = Some other
shorter (Some one) other = if nat_lt (as_nanos one) (as_nanos other) then Some one else Some other

-- how many nanoseconds a connection may be quiet: 60 seconds
abbrev pub most_quiet : ℕ
most_quiet = 60_000_000_000

-- How many nanoseconds a seat leaves to wait: none if its connection is ready for another turn, else
-- those until it was quiet for too long. A seat that nobody has sets no limit.
abbrev pub limit_of : Instant → Option Seated → Option ℕ
limit_of now = option_map (λ (seat : Seated). if seat.is_ready then 0
    else most_quiet - (instant_nanos now - seat.since))

-- The wait is the least of the limits that the first seats set, and without end exactly if they set
-- none.
abbrev pub IsLeast : Instant → ℕ → List (Option Seated) → Option Duration → Type 0
IsLeast now bound seats None = (c : ℕ) → c < bound → limit_of now (get_or seats c None) ≡ None
IsLeast now bound seats (Some wait) =
    ((c : ℕ) × (c < bound) × (limit_of now (get_or seats c None) ≡ Some (as_nanos wait)))
    × ((c : ℕ) → c < bound → IfSome (limit_of now (get_or seats c None)) (λ most. as_nanos wait ≤ most))
