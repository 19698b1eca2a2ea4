-- What the calls of a hub do, as events.
use Rattle.std.proofs.Common.{◌≡◌, ◌<◌, ℕ, List, [], ◌++◌, length, true, Option, Some, None, IsSome, get_or, refl, sym, ap, ◌∙◌, subst}
use Rattle.std.specs.Prelude.{slice_set}
use Rattle.std.proofs.Common.{length-set}
use Rattle.gql_registry.specs.State.{State}
use Rattle.gql_http.specs.Connections.{Serves, Breaks}
use Rattle.gql_http.specs.Events.{Event, opens, feeds, breaks, closes, with_connection, Does, does_open, does_feed, does_break, does_close}
use Rattle.gql_wire.specs.Framing.{Framing}
use Rattle.gql_http.specs.Hubs.{IsFeedOf}
use Rattle.gql_http.specs.Limits.{bytes_of}
use Rattle.gql_http.specs.declared.hub.TheConstants.{CONNECTIONS}
use Rattle.gql_http.proofs.Framers.{held_by, framer_set, changed_twice, open_within, no_some}

pub opened : (s : State) (framers : List (Option Framing)) (c n : ℕ) (framer : Framing) → n ≡ c → framer.bytes ≡ [] → c < CONNECTIONS → c < length framers
    → (IsSome (held_by framers c) → ⊥) → Does s (held_by framers) (opens c) [] s (held_by (slice_set framers n (Some framer)))
opened s framers c n framer same none few within closed =
    rw same (subst (λ all. Does s (held_by framers) (opens c) [] s all) (sym (framer_set framers c (Some framer) within))
    (subst (λ bytes. Does s (held_by framers) (opens c) [] s (with_connection (held_by framers) c (Some bytes))) (sym none)
    (does_open {rests = held_by framers} (few, no_some (held_by framers c) closed))))

pub closed : (s : State) (framers : List (Option Framing)) (c n : ℕ) → n ≡ c → IsSome (held_by framers c)
    → Does s (held_by framers) (closes c) [] s (held_by (slice_set framers n None))
closed s framers c n same some =
    rw same (subst (λ all. Does s (held_by framers) (closes c) [] s all) (sym (framer_set framers c None (open_within framers c some)))
    (does_close {rests = held_by framers} some))

-- a framer is there
held_some : (framers : List (Option Framing)) (c : ℕ) (framer : Framing) → Some framer ≡ get_or framers c None → IsSome (held_by framers c)
held_some framers c framer is = rw (← is) refl

-- the framer of an open connection was taken, and is put back unless a request closed it
pub fed : (s t : State) (framers taken : List (Option Framing)) (c n : ℕ) (framer after : Framing) (piece out : List ℕ) → n ≡ c → Some framer ≡ get_or framers c None
    → taken ≡ slice_set framers c None → Serves s (framer.bytes ++ piece) out t (Some after.bytes)
    → Does s (held_by framers) (feeds c piece) out t (held_by (slice_set taken n (Some after)))
fed s t framers taken c n framer after piece out same framer_is taken_is serves =
    let within : c < length framers = open_within framers c (held_some framers c framer framer_is) in
    let emptied : held_by taken ≡ with_connection (held_by framers) c None = ap held_by taken_is ∙ framer_set framers c None within in
    let still : c < length taken = rw taken_is (kept framers c None within) in
    let filled : held_by (slice_set taken c (Some after)) ≡ with_connection (held_by framers) c (Some after.bytes) =
    framer_set taken c (Some after) still ∙ ap (λ all. with_connection all c (Some after.bytes)) emptied ∙ changed_twice (held_by framers) c None (Some after.bytes) in
    rw same (subst (λ all. Does s (held_by framers) (feeds c piece) out t all) (sym filled) (does_feed {rests = held_by framers} (sym (ap bytes_of framer_is)) serves))
  where
    kept : (xs : List (Option Framing)) (i : ℕ) (x : Option Framing) → i < length xs → i < length (slice_set xs i x)
    kept xs i x less = rw (length-set xs i x) less

-- a request closed the connection
pub fed_last : (s t : State) (framers taken : List (Option Framing)) (c : ℕ) (framer : Framing) (piece out : List ℕ) → Some framer ≡ get_or framers c None
    → taken ≡ slice_set framers c None → Serves s (framer.bytes ++ piece) out t None → Does s (held_by framers) (feeds c piece) out t (held_by taken)
fed_last s t framers taken c framer piece out framer_is taken_is serves =
    let emptied : held_by taken ≡ with_connection (held_by framers) c None = ap held_by taken_is ∙ framer_set framers c None (open_within framers c (held_some framers c framer framer_is)) in
    subst (λ all. Does s (held_by framers) (feeds c piece) out t all) (sym emptied) (does_feed {rests = held_by framers} (sym (ap bytes_of framer_is)) serves)

-- an allocation failed
pub broke : (s t : State) (framers taken : List (Option Framing)) (c : ℕ) (framer : Framing) (piece out : List ℕ) → Some framer ≡ get_or framers c None
    → taken ≡ slice_set framers c None → (made : ℕ) × Breaks s (framer.bytes ++ piece) out t made
    → (e : Event) × IsFeedOf c piece true e × Does s (held_by framers) e out t (held_by taken)
broke s t framers taken c framer piece out framer_is taken_is (made, stops) =
    let emptied : held_by taken ≡ with_connection (held_by framers) c None = ap held_by taken_is ∙ framer_set framers c None (open_within framers c (held_some framers c framer framer_is)) in
    (breaks c piece made, (made, refl), subst (λ all. Does s (held_by framers) (breaks c piece made) out t all) (sym emptied) (does_break {rests = held_by framers} (sym (ap bytes_of framer_is)) stops))

-- what is served from a state is served from an equal one
pub from_state : (s u : State) {t : State} {bytes out : List ℕ} {rest : Option (List ℕ)} → u ≡ s → Serves u bytes out t rest → Serves s bytes out t rest
from_state s u {t} {bytes} {out} {rest} same h = subst (λ v. Serves v bytes out t rest) same h

pub breaks_from : (s u : State) {t : State} {bytes out : List ℕ} → u ≡ s → (made : ℕ) × Breaks u bytes out t made → (made : ℕ) × Breaks s bytes out t made
breaks_from s u {t} {bytes} {out} same (made, h) = (made, subst (λ v. Breaks v bytes out t made) same h)
