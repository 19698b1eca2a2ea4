-- The laws of the service and its hub. `src/laws.rt` has a function for each.
use Rattle.std.specs.Prelude.{ℕ, ◌+◌, ◌≡◌, List, [], ◌∷◌, ◌++◌, Bool, false, Option, Some, None}
use Rattle.gql_ast.specs.Profiles.{whole_numbers}
use Rattle.gql_ast.specs.declared.fault.Fault.{Fault}
use Rattle.gql_ast.specs.declared.fault.FileSide.{FileSide}
use Rattle.gql_ast.specs.declared.profile.Profile.{Profile}
use Rattle.gql_registry.specs.Edits.{Change, Edit}
use Rattle.gql_registry.specs.Laws.{under}
use Rattle.gql_registry.specs.Report.{IsReport}
use Rattle.gql_registry.specs.State.{State, empty_in, profile_of, with_effects}
use Rattle.gql_stored.specs.Effects.{Effect}
use Rattle.gql_wire.specs.Head.{is_head}
use Rattle.gql_wire.specs.Stream.{Req, request, Placed, Requests}
use Rattle.gql_http.specs.Answers.{Said, answer_bytes, report_said}
use Rattle.gql_http.specs.Connections.{requests_of, joined}
use Rattle.gql_http.specs.Events.{Event, opens, feeds, breaks, closes, Connections, all_closed, Does, Behaves}
use Rattle.gql_http.specs.History.{AcceptedEdits, AsksFor, DataAfter, Holds}
use Rattle.gql_http.specs.Limits.{limit_in}
use Rattle.gql_http.specs.Order.{Order, Answers, on}
use Rattle.gql_http.specs.Routes.{report, run, call_of, serves_batches, single_call_of}
use Rattle.gql_http.specs.Service.{Step, Run, Runs}

-- Where batches are not served, as under whole numbers, every request makes the call that it makes
-- where an edit is of one file or of the data, and every edit that is asked for has one change.
pub record WithoutBatches : Type 0 where
  pub of_whole_numbers : serves_batches whole_numbers ≡ false
  pub calls : (profile : Profile) (method target : List ℕ) → serves_batches profile ≡ false
      → call_of profile method target ≡ single_call_of profile.limits.name method target
  pub edits : (profile : Profile) (r : Req) (expected : Option ℕ) (e : Edit)
      → serves_batches profile ≡ false → AsksFor profile r expected e
      → (c : Change) × (e ≡ c ∷ [])

-- a request has at most one answer, and leaves at most one state
abbrev pub OneStep : Type 0
OneStep = (s t u : State) (r : Req) (a b : List ℕ) → Step s r a t → Step s r b u → (a ≡ b) × (t ≡ u)

-- requests one after the other have at most one list of answers, and leave at most one state
abbrev pub OneRun : Type 0
OneRun = (s t u : State) (rs : List Req) (ls ms : List (List ℕ)) → Run s rs ls t → Run s rs ms u
    → (ls ≡ ms) × (t ≡ u)

-- an event has at most one answer, and leaves at most one state and one set of unfinished bytes
abbrev pub OneDeed : Type 0
OneDeed = (s t u : State) (rests p q : Connections) (e : Event) (a b : List ℕ)
    → Does s rests e a t p → Does s rests e b u q
    → (a ≡ b) × (t ≡ u) × (p ≡ q)

-- every list of events has an order of requests
abbrev pub SomeOrder : Type 0
SomeOrder = (limit : ℕ) (fed : Connections) (events : List Event)
    → (groups : List (List Req)) × (last : Connections) × Order limit fed events groups last

-- a list of events has at most one order of requests
abbrev pub OneOrder : Type 0
OneOrder = (limit : ℕ) (fed p q : Connections) (events : List Event)
    (groups others : List (List Req)) → Order limit fed events groups p
    → Order limit fed events others q → (groups ≡ others) × (p ≡ q)

-- Whatever the events on connections that are all closed at first: the hub answers each event with
-- the answers to the requests that it completes, and all requests are run one after the other, in
-- the order in which they are complete, by the limit of bodies in the state before.
abbrev pub InOrder : Type 0
InOrder = (s t : State) (events : List Event) (outs : List (List ℕ)) (rests : Connections)
    → Behaves s all_closed events outs t rests
    → (groups : List (List Req)) × (fed : Connections) × Order (limit_in s) all_closed events groups fed
    × Answers s events groups outs t

-- the event is a feed of this connection, or one on another connection
abbrev pub FeedsOnly : ℕ → Event → Type 0
FeedsOnly c (feeds other piece) = Unit {0}
FeedsOnly c (opens other) = other ≡ c → ⊥
FeedsOnly c (breaks other piece made) = other ≡ c → ⊥
FeedsOnly c (closes other) = other ≡ c → ⊥

-- after an opening, this connection is fed and nothing else happens to it
abbrev pub AllFeed : ℕ → List Event → Type 0
AllFeed c [] = Unit {0}
AllFeed c (e ∷ events) = FeedsOnly c e × AllFeed c events

-- the piece of a feed
abbrev pub piece_of : Event → List ℕ
piece_of (feeds c piece) = piece
piece_of (breaks c piece made) = piece
piece_of (opens c) = []
piece_of (closes c) = []

-- the pieces of events
abbrev pub pieces_of : List Event → List (List ℕ)
pieces_of [] = []
pieces_of (e ∷ events) = piece_of e ∷ pieces_of events

-- The requests that the feeds after an opening complete are those of all bytes that they feed,
-- whatever the pieces are.
abbrev pub AnyPieces : Type 0
AnyPieces = (limit : ℕ) (fed last : Connections) (c : ℕ) (events : List Event) (groups : List (List Req))
    (requests : List Placed) (rest : List ℕ)
    → fed c ≡ Some [] → AllFeed c events → Order limit fed events groups last
    → Requests limit (joined (on c events (pieces_of events))) requests rest
    → joined (on c events groups) ≡ requests_of requests

-- A piece that is fed in two parts, the first of which leaves the connection open, does what the
-- whole does.
abbrev pub TwoParts : Type 0
TwoParts = (s t u : State) (rests between last : Connections) (c : ℕ)
    (first second half a b : List ℕ) → Does s rests (feeds c first) a t between
    → between c ≡ Some half → Does t between (feeds c second) b u last
    → Does s rests (feeds c (first ++ second)) (a ++ b) u last

-- After requests that began with no files, under any profile, a name of a side holds the document of
-- its last accepted edit, and no other name holds one.
abbrev pub FilesPresent : Type 0
FilesPresent = (profile : Profile) (t : State) (rs : List Req) (answers : List (List ℕ))
    (side : FileSide) (name : List ℕ)
    → Run (empty_in profile) rs answers t
    → Holds side name (empty_in profile) None rs (under side name t)

-- requests keep the profile, and with it the limits of bodies and of names
abbrev pub RunKeepsProfile : Type 0
RunKeepsProfile = (s t : State) (rs : List Req) (answers : List (List ℕ)) → Run s rs answers t
    → profile_of t ≡ profile_of s

-- A request for the report, among others, is answered with the report of the files that are present
-- after the requests before it.
abbrev pub ReportThen : Type 0
ReportThen = (s u : State) (front rest : List Req) (method target body : List ℕ) (closing : Bool)
    (answers : List (List ℕ))
    → call_of (profile_of s) method target ≡ report
    → Run s (front ++ (request method target body closing ∷ rest)) answers u
    → (before after : List (List ℕ)) × (t : State) × (faults : List Fault) × Run s front before t
    × IsReport t.files faults
    × (answers ≡ before ++ (answer_bytes closing (is_head method) (report_said t.revision faults)
    ∷ after)) × Run t rest after u

-- After requests, the data is what accepted edits of the data and served mutations have made of it,
-- one after the other. A new registry has an object without members.
abbrev pub DataPresent : Type 0
DataPresent = (s t : State) (rs : List Req) (answers : List (List ℕ)) → Run s rs answers t
    → DataAfter s s.stored rs t.stored

-- Whatever the events on connections that are all closed at first: the data is what accepted edits
-- of the data and served mutations have made of it, one after the other, in the order in which the
-- requests are complete.
abbrev pub DataInOrder : Type 0
DataInOrder = (s t : State) (events : List Event) (outs : List (List ℕ)) (rests : Connections)
    → Behaves s all_closed events outs t rests
    → (groups : List (List Req)) × (fed : Connections) × Order (limit_in s) all_closed events groups fed
    × DataAfter s s.stored (joined groups) t.stored

-- after requests, the revision has grown by the number of accepted edits among them: a mutation is
-- none
abbrev pub RevisionCounts : Type 0
RevisionCounts = (s t : State) (rs : List Req) (answers : List (List ℕ)) → Run s rs answers t
    → (n : ℕ) × AcceptedEdits s rs n × (t.revision ≡ s.revision + n)

-- A request to run an operation, among others, is answered as the registry answers it on the files
-- and the data that are present after the requests before it, and the requests after it find the
-- data with what it adds.
abbrev pub CallThen : Type 0
CallThen = (s u : State) (front rest : List Req) (method target body : List ℕ) (closing : Bool)
    (answers : List (List ℕ))
    → call_of (profile_of s) method target ≡ run
    → Run s (front ++ (request method target body closing ∷ rest)) answers u
    → (before after : List (List ℕ)) × (t : State) × (said : Said) × (effects : List Effect)
    × Run s front before t × Runs t body said effects
    × (answers ≡ before ++ (answer_bytes closing (is_head method) said ∷ after))
    × Run (with_effects t effects) rest after u
