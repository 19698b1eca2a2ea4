-- In any pieces: the requests that the feeds of a connection complete are those of all bytes that
-- they feed.
use Rattle.std.proofs.Common.{◌≡◌, ◌≢◌, ℕ, List, [], ◌∷◌, ◌++◌, length, Bool, true, false, cond, Option, Some, None, IsSome, refl, sym, ap, ◌∙◌, subst, append_assoc, append-nil, eqb-true, arith}
use Rattle.std.specs.Prelude.{◌==◌}
use Rattle.std.proofs.lemmas.Bool.Decides.{nat_tests}
use Rattle.gql_wire.specs.Stream.{Req, Placed, Requests, unfinished, StaysOpen}
use Rattle.gql_wire.specs.Laws.{MoreBytes, OneSplit, NothingUnfinished, Closed}
use Rattle.gql_http.specs.Connections.{requests_of, joined, is_closed, held_after}
use Rattle.gql_http.specs.Events.{Event, opens, feeds, breaks, closes, connection_of, Connections, with_connection}
use Rattle.gql_http.specs.Laws.{FeedsOnly, AllFeed, piece_of, pieces_of, AnyPieces}
use Rattle.gql_http.specs.Order.{completed_after, Completes, by_open, by_feed, by_break, by_close, by_none, Order, no_events, first, on}
use Rattle.gql_http.proofs.Framers.{changed, unchanged, some_none}
use Rattle.gql_http.proofs.Joining.{stays_open, stays_clash, requests_append, continued, some_same}

is_open : (o : Option (List ℕ)) (a : List ℕ) → o ≡ Some a → IsSome o
is_open o a is = rw is refl

apart : (d c : ℕ) → (d == c) ≡ false → c ≢ d
apart d c is = grind (arith, nat_tests)

same_number : (c : ℕ) → (c == c) ≡ true
same_number c = grind (arith, nat_tests)

-- an event on another connection leaves this one as it is
kept : {limit : ℕ} → (fed next : Connections) (e : Event) (group : List Req) (c : ℕ) → Completes limit fed e group next → (connection_of e == c) ≡ false → next c ≡ fed c
kept fed _ _ _ c (by_open {c = d} allowed) other = unchanged fed d c (Some []) (apart d c other)
kept fed _ _ _ c (by_feed {c = d} {piece = piece} {bytes = bytes} {requests = requests} here h) other = unchanged fed d c (held_after (requests_of requests) (bytes ++ piece)) (apart d c other)
kept fed _ _ _ c (by_break {c = d} here h) other = unchanged fed d c None (apart d c other)
kept fed _ _ _ c (by_close {c = d} allowed) other = unchanged fed d c None (apart d c other)
kept fed _ _ _ c (by_none barred) other = refl

-- what an event on this connection does where it is closed: nothing
shut_event : {limit : ℕ} → (fed next : Connections) (e : Event) (group : List Req) (c : ℕ) → Completes limit fed e group next → FeedsOnly c e → (connection_of e == c) ≡ true → fed c ≡ None
    → (group ≡ []) × (next c ≡ None)
shut_event fed _ _ _ c (by_open {c = d} allowed) only same none = absurd (only (eqb-true d c same))
shut_event fed _ _ _ c (by_feed {c = d} {bytes = bytes} here h) only same none =
    absurd (some_none (fed d) (is_open (fed d) bytes here) (ap fed (eqb-true d c same) ∙ none))
shut_event fed _ _ _ c (by_break {c = d} here h) only same none = absurd (only (eqb-true d c same))
shut_event fed _ _ _ c (by_close {c = d} allowed) only same none = absurd (only (eqb-true d c same))
shut_event fed _ _ _ c (by_none barred) only same none = (refl, none)

on_by : {A : Type 0} → (b t : Bool) → b ≡ t → (x : A) (xs : List A) → cond b (x ∷ xs) xs ≡ cond t (x ∷ xs) xs
on_by b t is x xs = ap (λ z. cond z (x ∷ xs) xs) is

-- a closed connection that is only fed completes nothing
shut_events : {limit : ℕ} → (fed last : Connections) (c : ℕ) (events : List Event) (groups : List (List Req)) → Order limit fed events groups last → AllFeed c events → fed c ≡ None
    → joined (on c events groups) ≡ []
shut_events fed _ c _ _ no_events all none = refl
shut_events fed last c _ _ (first {between = next} {e = e} {group = group} {events = events} {groups = groups} h k) all none =
    by (connection_of e == c) refl (λ still. shut_events next last c events groups k all.1 still)
  where
    by : (b : Bool) → (connection_of e == c) ≡ b → (next c ≡ None → joined (on c events groups) ≡ []) → joined (on c (e ∷ events) (group ∷ groups)) ≡ []
    by true is rest =
        let here = shut_event fed next e group c h all.0 is none in
        ap joined (on_by (connection_of e == c) true is group (on c events groups)) ∙ ap (λ xs. xs ++ joined (on c events groups)) here.0 ∙ rest here.1
    by false is rest = ap joined (on_by (connection_of e == c) false is group (on c events groups)) ∙ rest (kept fed next e group c h is ∙ none)

-- the pieces of this connection
pieces_step : (c : ℕ) (e : Event) (events : List Event) (b : Bool) → (connection_of e == c) ≡ b
    → joined (on c (e ∷ events) (pieces_of (e ∷ events))) ≡ cond b (piece_of e ++ joined (on c events (pieces_of events))) (joined (on c events (pieces_of events)))
pieces_step c e events true is = ap joined (on_by (connection_of e == c) true is (piece_of e) (on c events (pieces_of events)))
pieces_step c e events false is = ap joined (on_by (connection_of e == c) false is (piece_of e) (on c events (pieces_of events)))

-- what a feed of an open connection completes
record FedMore (limit : ℕ) (fed next : Connections) (c : ℕ) (bytes piece : List ℕ) (group : List Req) : Type 0 where
  pub requests : List Placed
  pub rest : List ℕ
  pub splits : Requests limit (bytes ++ piece) requests rest
  pub group_is : group ≡ completed_after (length bytes) requests
  pub next_is : next c ≡ held_after (requests_of requests) (bytes ++ piece)

fed_event : {limit : ℕ} → (fed next : Connections) (e : Event) (group : List Req) (c : ℕ) (bytes : List ℕ) → Completes limit fed e group next → FeedsOnly c e → (connection_of e == c) ≡ true → fed c ≡ Some bytes
    → FedMore limit fed next c bytes (piece_of e) group
fed_event fed _ _ _ c bytes (by_open {c = d} allowed) only same here = absurd (only (eqb-true d c same))
fed_event {limit} fed _ _ _ c bytes (by_feed {c = d} {piece = piece} {bytes = other} {rest = rest} {requests = requests} there h) only same here =
    let number : d ≡ c = eqb-true d c same in
    let equal : other ≡ bytes = some_same other bytes (sym there ∙ ap fed number ∙ here) in
    record {
      requests = requests;
      rest = rest;
      splits = subst (λ z. Requests limit (z ++ piece) requests rest) equal h;
      group_is = ap (λ z. completed_after (length z) requests) equal;
      next_is = ap (with_connection fed d (held_after (requests_of requests) (other ++ piece))) (sym number) ∙ changed fed d (held_after (requests_of requests) (other ++ piece))
          ∙ ap (λ z. held_after (requests_of requests) (z ++ piece)) equal;
    }
fed_event fed _ _ _ c bytes (by_break {c = d} there h) only same here = absurd (only (eqb-true d c same))
fed_event fed _ _ _ c bytes (by_close {c = d} allowed) only same here = absurd (only (eqb-true d c same))
fed_event fed _ _ _ c bytes (by_none {e = opens d} barred) only same here = absurd (only (eqb-true d c same))
fed_event fed _ _ _ c bytes (by_none {e = feeds d piece} barred) only same here = absurd (barred (is_open (fed d) bytes (ap fed (eqb-true d c same) ∙ here)))
fed_event fed _ _ _ c bytes (by_none {e = breaks d piece made} barred) only same here = absurd (only (eqb-true d c same))
fed_event fed _ _ _ c bytes (by_none {e = closes d} barred) only same here = absurd (only (eqb-true d c same))

module _ (limit : ℕ) (split : OneSplit) (more_bytes : MoreBytes) (drops : Closed) where
  -- what is fed after a request closed the connection is dropped
  after_closed : (next last : Connections) (c : ℕ) (bytes further rest so_far : List ℕ) (before requests : List Placed) (events : List Event) (groups : List (List Req)) → Order limit next events groups last
      → AllFeed c events → next c ≡ None → is_closed (requests_of before) ≡ true → Requests limit bytes before so_far → Requests limit (bytes ++ further) requests rest
      → requests_of requests ≡ requests_of before ++ joined (on c events groups)
  after_closed next last c bytes further rest so_far before requests events groups order all none is h k =
      let same = split limit 0 (bytes ++ further) before requests so_far rest (drops limit 0 bytes further before so_far h (stays_clash before is)) k in
      ap requests_of (sym same.0) ∙ sym (append-nil (requests_of before)) ∙ ap (λ xs. requests_of before ++ xs) (sym (shut_events next last c events groups order all none))

  -- the feed of a piece, and what comes after it
  piece_fed : (next last : Connections) (c : ℕ) (bytes further rest so_far : List ℕ) (before requests : List Placed) (events : List Event) (groups : List (List Req)) (b : Bool)
      → is_closed (requests_of before) ≡ b → next c ≡ cond b None (Some bytes) → Order limit next events groups last → AllFeed c events → Requests limit bytes before so_far → Requests limit (bytes ++ further) requests rest
      → (next c ≡ Some bytes → StaysOpen before → requests_of requests ≡ requests_of before ++ joined (on c events groups)) → requests_of requests ≡ requests_of before ++ joined (on c events groups)
  piece_fed next last c bytes further rest so_far before requests events groups true is next_is order all h k go = after_closed next last c bytes further rest so_far before requests events groups order all next_is is h k
  piece_fed next last c bytes further rest so_far before requests events groups false is next_is order all h k go = go next_is (stays_open before is)

  event_by : (fed next last : Connections) (c : ℕ) (bytes left rest : List ℕ) (before requests : List Placed) (e : Event) (group : List Req) (events : List Event) (groups : List (List Req)) (b : Bool)
      → (connection_of e == c) ≡ b → Completes limit fed e group next → Order limit next events groups last → FeedsOnly c e → AllFeed c events → fed c ≡ Some bytes → Requests limit bytes before left → StaysOpen before
      → Requests limit (bytes ++ joined (on c (e ∷ events) (pieces_of (e ∷ events)))) requests rest
      → (next c ≡ Some bytes → Requests limit (bytes ++ joined (on c events (pieces_of events))) requests rest → requests_of requests ≡ requests_of before ++ joined (on c events groups))
      → ((so_far more_left : List ℕ) (more_before : List Placed) → next c ≡ Some so_far → Requests limit so_far more_before more_left → StaysOpen more_before
      → Requests limit (so_far ++ joined (on c events (pieces_of events))) requests rest → requests_of requests ≡ requests_of more_before ++ joined (on c events groups))
      → requests_of requests ≡ requests_of before ++ joined (on c (e ∷ events) (group ∷ groups))
  event_by fed next last c bytes left rest before requests e group events groups false is step order only all here h stays k same_on fed_on =
      same_on (kept fed next e group c step is ∙ here) (subst (λ z. Requests limit (bytes ++ z) requests rest) (pieces_step c e events false is) k)
      ∙ ap (λ xs. requests_of before ++ joined xs) (sym (on_by (connection_of e == c) false is group (on c events groups)))
  event_by fed next last c bytes left rest before requests e group events groups true is step order only all here h stays k same_on fed_on =
      let f = fed_event fed next e group c bytes step only is here in
      let m = continued more_bytes bytes (piece_of e) left f.rest before f.requests h stays f.splits in
      let together : requests_of f.requests ≡ requests_of before ++ group = ap requests_of m.1 ∙ requests_append before m.0 ∙ ap (λ xs. requests_of before ++ xs) (sym (f.group_is ∙ m.2)) in
      let further = joined (on c events (pieces_of events)) in
      let whole : Requests limit ((bytes ++ piece_of e) ++ further) requests rest =
      subst (λ z. Requests limit z requests rest) (sym (append_assoc bytes (piece_of e) further)) (subst (λ z. Requests limit (bytes ++ z) requests rest) (pieces_step c e events true is) k) in
      piece_fed next last c (bytes ++ piece_of e) further rest f.rest f.requests requests events groups (is_closed (requests_of f.requests)) refl f.next_is order all f.splits whole
      (λ open_next unclosed. fed_on (bytes ++ piece_of e) f.rest f.requests open_next f.splits unclosed whole)
      ∙ ap (λ xs. xs ++ joined (on c events groups)) together
      ∙ append_assoc (requests_of before) group (joined (on c events groups))
      ∙ ap (λ xs. requests_of before ++ joined xs) (sym (on_by (connection_of e == c) true is group (on c events groups)))

  telescope : (fed last : Connections) (c : ℕ) (bytes left rest : List ℕ) (before requests : List Placed) (events : List Event) (groups : List (List Req)) → Order limit fed events groups last
      → AllFeed c events → fed c ≡ Some bytes → Requests limit bytes before left → StaysOpen before → Requests limit (bytes ++ joined (on c events (pieces_of events))) requests rest
      → requests_of requests ≡ requests_of before ++ joined (on c events groups)
  telescope fed _ c bytes left rest before requests _ _ no_events all here h stays k =
      let same = split limit 0 bytes before requests left rest h (subst (λ z. Requests limit z requests rest) (append-nil bytes) k) in
      ap requests_of (sym same.0) ∙ sym (append-nil (requests_of before))
  telescope fed last c bytes left rest before requests _ _ (first {between = next} {e = e} {group = group} {events = events} {groups = groups} step order) all here h stays k =
      event_by fed next last c bytes left rest before requests e group events groups (connection_of e == c) refl step order all.0 all.1 here h stays k
      (λ still whole. telescope next last c bytes left rest before requests events groups order all.1 still h stays whole)
      (λ so_far more_left more_before open_next splits unclosed whole. telescope next last c so_far more_left rest more_before requests events groups order all.1 open_next splits unclosed whole)

  pieces_lem : NothingUnfinished → (fed last : Connections) (c : ℕ) (events : List Event) (groups : List (List Req)) (requests : List Placed) (rest : List ℕ) → fed c ≡ Some [] → AllFeed c events
      → Order limit fed events groups last → Requests limit (joined (on c events (pieces_of events))) requests rest → joined (on c events groups) ≡ requests_of requests
  pieces_lem nothing fed last c events groups requests rest here all order h =
      sym (telescope fed last c [] [] rest [] requests events groups order all here (unfinished (nothing limit) refl) tt h)

pub any_pieces_lem : OneSplit → MoreBytes → Closed → NothingUnfinished → AnyPieces
any_pieces_lem split more_bytes drops nothing limit fed last c events groups requests rest here all order h =
    pieces_lem limit split more_bytes drops nothing fed last c events groups requests rest here all order h
