-- The requests of all connections, run in the order in which they are complete.
use Rattle.std.proofs.Common.{◌≡◌, ◌<◌, ◌⊎◌, inl, inr, ℕ, suc, List, [], ◌∷◌, ◌++◌, length, take, Bool, true, false, cond, Option, Some, None, IsSome, refl, sym, ap, ap₂, ◌∙◌, subst, arith}
use Rattle.std.specs.Prelude.{◌==◌}
use Rattle.std.proofs.lemmas.Bool.Decides.{leb_tells}
use Rattle.gql_registry.specs.State.{State}
use Rattle.gql_wire.specs.Stream.{Req, Placed, Requests, unfinished, StaysOpen}
use Rattle.gql_wire.specs.Laws.{MoreBytes, SomeSplit, OneSplit, NothingUnfinished}
use Rattle.gql_http.specs.Connections.{requests_of, joined, is_closed, held_after}
use Rattle.gql_http.specs.Events.{Event, opens, feeds, breaks, closes, connection_of, Connections, all_closed, with_connection, IsAllowed, Does, does_open, does_feed, does_break, does_close, ignores, Behaves, does_nothing, does_first}
use Rattle.gql_http.specs.Laws.{SomeOrder, OneOrder, InOrder}
use Rattle.gql_http.specs.Limits.{limit_in}
use Rattle.gql_http.specs.Order.{completed_after, Completes, by_open, by_feed, by_break, by_close, by_none, Order, no_events, first, on, Answers}
use Rattle.gql_http.specs.Service.{Run, done, more}
use Rattle.gql_http.specs.declared.hub.TheConstants.{CONNECTIONS}
use Rattle.gql_http.proofs.Framers.{some_none}
use Rattle.gql_http.proofs.KeptLimit.{does_limit}
use Rattle.gql_http.proofs.Joining.{run_append, joined_append, stays_open, closed_by_more, later_ones, whole, some_same}

is_open : (o : Option (List ℕ)) (a : List ℕ) → o ≡ Some a → IsSome o
is_open o a is = rw is refl

-- ---- there is an order

some_or_not : (o : Option (List ℕ)) → IsSome o ⊎ (IsSome o → ⊥)
some_or_not (Some bytes) = inl refl
some_or_not None = inr (λ some. cc)

opens_or_not : (all : Connections) (c : ℕ) (o : Option (List ℕ)) → all c ≡ o → c < CONNECTIONS → IsAllowed all (opens c) ⊎ (IsAllowed all (opens c) → ⊥)
opens_or_not all c None is few = inl (few, is)
opens_or_not all c (Some bytes) is few = inr (λ allowed. some_none (all c) (is_open (all c) bytes is) allowed.1)

-- an event is allowed or not
allowed_or_not : (all : Connections) (e : Event) → IsAllowed all e ⊎ (IsAllowed all e → ⊥)
allowed_or_not all (opens c) = elim (leb_tells (suc c) CONNECTIONS) [
  | inl (w, few) ↦ opens_or_not all c (all c) refl (omega arith)
  | inr (w, many) ↦ inr (λ allowed. omega (arith, allowed.0))
]
allowed_or_not all (feeds c piece) = some_or_not (all c)
allowed_or_not all (breaks c piece made) = some_or_not (all c)
allowed_or_not all (closes c) = some_or_not (all c)

the_bytes : (o : Option (List ℕ)) → IsSome o → (bytes : List ℕ) × (o ≡ Some bytes)
the_bytes (Some bytes) some = (bytes, refl)
the_bytes None some = absurd (some_none None some refl)

module _ (some : SomeSplit) where
  allowed_completes : (limit : ℕ) (fed : Connections) (e : Event) → IsAllowed fed e → (group : List Req) × (next : Connections) × Completes limit fed e group next
  allowed_completes limit fed (opens c) allowed = ([], with_connection fed c (Some []), by_open allowed)
  allowed_completes limit fed (feeds c piece) allowed =
      let held = the_bytes (fed c) allowed in
      let split = some limit 0 (held.0 ++ piece) in
      (completed_after (length held.0) split.0, with_connection fed c (held_after (requests_of split.0) (held.0 ++ piece)), by_feed held.1 split.2)
  allowed_completes limit fed (breaks c piece made) allowed =
      let held = the_bytes (fed c) allowed in
      let split = some limit 0 (held.0 ++ piece) in
      (take made (completed_after (length held.0) split.0), with_connection fed c None, by_break held.1 split.2)
  allowed_completes limit fed (closes c) allowed = ([], with_connection fed c None, by_close allowed)

  completes : (limit : ℕ) (fed : Connections) (e : Event) → (group : List Req) × (next : Connections) × Completes limit fed e group next
  completes limit fed e = elim (allowed_or_not fed e) [
    | inl allowed ↦ allowed_completes limit fed e allowed
    | inr barred ↦ ([], fed, by_none barred)
  ]

  pub some_order_lem : SomeOrder
  some_order_lem limit fed [] = ([], fed, no_events)
  some_order_lem limit fed (e ∷ events) =
      let step = completes limit fed e in
      let rest = some_order_lem limit step.1 events in
      (step.0 ∷ rest.0, rest.1, first step.2 rest.2)

-- ---- and one only

module _ (split : OneSplit) where
  same_split : {limit : ℕ} → (o : Option (List ℕ)) (a b piece r q : List ℕ) (ps qs : List Placed) → o ≡ Some a → o ≡ Some b → Requests limit (a ++ piece) ps r → Requests limit (b ++ piece) qs q → (a ≡ b) × (ps ≡ qs)
  same_split {limit} o a b piece r q ps qs x y h k =
      let same : a ≡ b = some_same a b (sym x ∙ y) in
      (same, (split limit 0 (b ++ piece) ps qs r q (subst (λ z. Requests limit (z ++ piece) ps r) same h) k).0)

  one_completes : {limit : ℕ} → (fed : Connections) (e : Event) (g h : List Req) (p q : Connections) → Completes limit fed e g p → Completes limit fed e h q → (g ≡ h) × (p ≡ q)
  one_completes fed _ _ _ _ _ (by_open x) (by_open y) = (refl, refl)
  one_completes fed _ _ _ _ _ (by_open x) (by_none barred) = absurd (barred x)
  one_completes fed _ _ _ _ _ (by_feed {c = c} {piece = piece} {bytes = a} {rest = r} {requests = ps} x h) (by_feed {bytes = b} {rest = q} {requests = qs} y k) =
      let same = same_split (fed c) a b piece r q ps qs x y h k in
      (ap₂ (λ bytes rs. completed_after (length bytes) rs) same.0 same.1, ap₂ (λ bytes rs. with_connection fed c (held_after (requests_of rs) (bytes ++ piece))) same.0 same.1)
  one_completes fed _ _ _ _ _ (by_feed {c = c} {bytes = a} x h) (by_none barred) = absurd (barred (is_open (fed c) a x))
  one_completes fed _ _ _ _ _ (by_break {c = c} {made = made} {piece = piece} {bytes = a} {rest = r} {requests = ps} x h) (by_break {bytes = b} {rest = q} {requests = qs} y k) =
      let same = same_split (fed c) a b piece r q ps qs x y h k in
      (ap₂ (λ bytes rs. take made (completed_after (length bytes) rs)) same.0 same.1, refl)
  one_completes fed _ _ _ _ _ (by_break {c = c} {bytes = a} x h) (by_none barred) = absurd (barred (is_open (fed c) a x))
  one_completes fed _ _ _ _ _ (by_close x) (by_close y) = (refl, refl)
  one_completes fed _ _ _ _ _ (by_close x) (by_none barred) = absurd (barred x)
  one_completes fed _ _ _ _ _ (by_none barred) (by_open x) = absurd (barred x)
  one_completes fed _ _ _ _ _ (by_none barred) (by_feed {c = c} {bytes = a} x h) = absurd (barred (is_open (fed c) a x))
  one_completes fed _ _ _ _ _ (by_none barred) (by_break {c = c} {bytes = a} x h) = absurd (barred (is_open (fed c) a x))
  one_completes fed _ _ _ _ _ (by_none barred) (by_close x) = absurd (barred x)
  one_completes fed _ _ _ _ _ (by_none barred) (by_none other) = (refl, refl)

  pub one_order_lem : OneOrder
  one_order_lem limit fed _ _ _ _ _ no_events no_events = (refl, refl)
  one_order_lem limit fed p q _ _ _ (first {between = b} {e = e} {group = g} {events = events} {groups = gs} x h) (first {between = d} {group = i} {groups = js} y k) =
      let here = one_completes fed e g i b d x y in
      let rest = one_order_lem limit b p q events gs js h (subst (λ z. Order limit z events js q) (sym here.1) k) in
      (ap₂ (λ a rest. a ∷ rest) here.0 rest.0, rest.1)

-- ---- the unfinished bytes are what is left of all bytes

-- what a connection holds, and all bytes that it was fed since it was opened
data Follows (limit : ℕ) : Option (List ℕ) → Option (List ℕ) → Type 0 where
  shut : Follows limit None None
  going : {bytes left : List ℕ} {requests : List Placed} → Requests limit bytes requests left → StaysOpen requests → Follows limit (Some left) (Some bytes)

abbrev Follow : ℕ → Connections → Connections → Type 0
Follow limit rests fed = (c : ℕ) → Follows limit (rests c) (fed c)

changed_by : {limit : ℕ} → (b : Bool) (x y p q : Option (List ℕ)) → Follows limit p q → Follows limit x y → Follows limit (cond b x p) (cond b y q)
changed_by true x y p q other here = here
changed_by false x y p q other here = other

follow_change : {limit : ℕ} → (rests fed : Connections) (c : ℕ) (x y : Option (List ℕ)) → Follow limit rests fed → Follows limit x y → Follow limit (with_connection rests c x) (with_connection fed c y)
follow_change rests fed c x y all here d = changed_by (d == c) x y (rests d) (fed d) (all d) here

none_then : {limit : ℕ} → (x y : Option (List ℕ)) → Follows limit x y → x ≡ None → y ≡ None
none_then _ _ shut is = refl
none_then _ _ (going {left = left} h stays) is = absurd (some_none (Some left) refl is)

none_before : {limit : ℕ} → (x y : Option (List ℕ)) → Follows limit x y → y ≡ None → x ≡ None
none_before _ _ shut is = refl
none_before _ _ (going {bytes = bytes} h stays) is = absurd (some_none (Some bytes) refl is)

some_then : {limit : ℕ} → (x y : Option (List ℕ)) → Follows limit x y → IsSome x → IsSome y
some_then _ _ shut is = is
some_then _ _ (going h stays) is = refl

some_before : {limit : ℕ} → (x y : Option (List ℕ)) → Follows limit x y → IsSome y → IsSome x
some_before _ _ shut is = is
some_before _ _ (going h stays) is = refl

allowed_then : {limit : ℕ} → (rests fed : Connections) (e : Event) → Follow limit rests fed → IsAllowed rests e → IsAllowed fed e
allowed_then rests fed (opens c) all allowed = (allowed.0, none_then (rests c) (fed c) (all c) allowed.1)
allowed_then rests fed (feeds c piece) all allowed = some_then (rests c) (fed c) (all c) allowed
allowed_then rests fed (breaks c piece made) all allowed = some_then (rests c) (fed c) (all c) allowed
allowed_then rests fed (closes c) all allowed = some_then (rests c) (fed c) (all c) allowed

allowed_before : {limit : ℕ} → (rests fed : Connections) (e : Event) → Follow limit rests fed → IsAllowed fed e → IsAllowed rests e
allowed_before rests fed (opens c) all allowed = (allowed.0, none_before (rests c) (fed c) (all c) allowed.1)
allowed_before rests fed (feeds c piece) all allowed = some_before (rests c) (fed c) (all c) allowed
allowed_before rests fed (breaks c piece made) all allowed = some_before (rests c) (fed c) (all c) allowed
allowed_before rests fed (closes c) all allowed = some_before (rests c) (fed c) (all c) allowed

-- all bytes that an open connection was fed
record Fed (limit : ℕ) (y : Option (List ℕ)) (held : List ℕ) : Type 0 where
  pub bytes : List ℕ
  pub requests : List Placed
  pub is : y ≡ Some bytes
  pub splits : Requests limit bytes requests held
  pub stays : StaysOpen requests

fed_before : {limit : ℕ} → (x y : Option (List ℕ)) (held : List ℕ) → Follows limit x y → x ≡ Some held → Fed limit y held
fed_before _ _ held shut is = absurd (some_none None (is_open None held is) refl)
fed_before {limit} _ _ held (going {bytes = bytes} {left = left} {requests = requests} h stays) is =
    record { bytes = bytes; requests = requests; is = refl; splits = subst (λ r. Requests limit bytes requests r) (some_same left held is) h; stays = stays }

-- ---- what an event answers

-- the requests that an event completes, with their answers
record Completed (s : State) (fed : Connections) (e : Event) (out : List ℕ) (t : State) (rests : Connections) : Type 0 where
  pub group : List Req
  pub next : Connections
  pub answers : List (List ℕ)
  pub completes : Completes (limit_in s) fed e group next
  pub run : Run s group answers t
  pub written : out ≡ joined answers
  pub follow : Follow (limit_in s) rests next

follows_after : {limit : ℕ} → (b : Bool) (left bytes : List ℕ) (requests : List Placed) → is_closed (requests_of requests) ≡ b → Requests limit bytes requests left
    → Follows limit (cond b None (Some left)) (cond b None (Some bytes))
follows_after true left bytes requests is h = shut
follows_after false left bytes requests is h = going h (stays_open requests is)

module _ (nothing : NothingUnfinished) (some : SomeSplit) (one : OneSplit) (more_bytes : MoreBytes) where
  completed : (s t : State) (rests fed next : Connections) (e : Event) (out : List ℕ) → Follow (limit_in s) rests fed → Does s rests e out t next → Completed s fed e out t next
  completed s _ rests fed _ _ _ all (does_open {c = c} allowed) = record {
    group = [];
    next = with_connection fed c (Some []);
    answers = [];
    completes = by_open (allowed_then rests fed (opens c) all allowed);
    run = done;
    written = refl;
    follow = follow_change rests fed c (Some []) (Some []) all (going (unfinished (nothing (limit_in s)) refl) tt);
  }
  completed s _ rests fed _ _ _ all (does_feed {t = t} {c = c} {piece = piece} {held = held} {out = out} {rest = rest} here h) =
      let before = fed_before (rests c) (fed c) held (all c) here in
      let w = whole some one more_bytes before.bytes piece held h.rest before.requests h.requests before.splits before.stays h.splits in
      let group : completed_after (length before.bytes) (before.requests ++ w.further) ≡ requests_of h.requests = later_ones (length before.bytes) before.requests w.further w.early w.late ∙ w.same in
      let closed : is_closed (requests_of (before.requests ++ w.further)) ≡ is_closed (requests_of h.requests) = closed_by_more before.requests w.further before.stays ∙ ap is_closed w.same in
      let left : Follows (limit_in s) rest (held_after (requests_of (before.requests ++ w.further)) (before.bytes ++ piece)) =
      subst (λ r. Follows (limit_in s) r (held_after (requests_of (before.requests ++ w.further)) (before.bytes ++ piece))) (sym (h.left ∙ ap (λ b. cond b None (Some h.rest)) (sym closed)))
      (follows_after (is_closed (requests_of (before.requests ++ w.further))) h.rest (before.bytes ++ piece) (before.requests ++ w.further) refl w.splits) in
      record {
        group = completed_after (length before.bytes) (before.requests ++ w.further);
        next = with_connection fed c (held_after (requests_of (before.requests ++ w.further)) (before.bytes ++ piece));
        answers = h.answers;
        completes = by_feed before.is w.splits;
        run = subst (λ rs. Run s rs h.answers t) (sym group) h.run;
        written = h.written;
        follow = follow_change rests fed c rest (held_after (requests_of (before.requests ++ w.further)) (before.bytes ++ piece)) all left;
      }
  completed s _ rests fed _ _ _ all (does_break {t = t} {c = c} {made = made} {piece = piece} {held = held} {out = out} here h) =
      let before = fed_before (rests c) (fed c) held (all c) here in
      let w = whole some one more_bytes before.bytes piece held h.rest before.requests h.requests before.splits before.stays h.splits in
      let group : completed_after (length before.bytes) (before.requests ++ w.further) ≡ requests_of h.requests = later_ones (length before.bytes) before.requests w.further w.early w.late ∙ w.same in
      record {
        group = take made (completed_after (length before.bytes) (before.requests ++ w.further));
        next = with_connection fed c None;
        answers = h.answers;
        completes = by_break before.is w.splits;
        run = subst (λ rs. Run s (take made rs) h.answers t) (sym group) h.run;
        written = h.written;
        follow = follow_change rests fed c None None all shut;
      }
  completed s _ rests fed _ _ _ all (does_close {c = c} allowed) = record {
    group = [];
    next = with_connection fed c None;
    answers = [];
    completes = by_close (allowed_then rests fed (closes c) all allowed);
    run = done;
    written = refl;
    follow = follow_change rests fed c None None all shut;
  }
  completed s _ rests fed _ _ _ all (ignores {e = e} barred) = record {
    group = [];
    next = fed;
    answers = [];
    completes = by_none (λ allowed. barred (allowed_before rests fed e all allowed));
    run = done;
    written = refl;
    follow = all;
  }

  -- ---- what events answer

  run_length : (s t : State) (rs : List Req) (answers : List (List ℕ)) → Run s rs answers t → length rs ≡ length answers
  run_length s _ _ _ done = refl
  run_length s t _ _ (more x h) = ap suc (run_length _ t _ _ h)

  shares_by : (b : Bool) (out : List ℕ) (outs answers : List (List ℕ)) (all : List (List (List ℕ))) → out ≡ joined answers → joined outs ≡ joined (joined all)
      → joined (cond b (out ∷ outs) outs) ≡ joined (joined (cond b (answers ∷ all) all))
  shares_by true out outs answers all here rest = ap₂ (λ x y. x ++ y) here rest ∙ sym (joined_append answers (joined all))
  shares_by false out outs answers all here rest = rest

  answers_first : (s t u : State) (e : Event) (group : List Req) (answers : List (List ℕ)) (out : List ℕ) (events : List Event) (groups : List (List Req)) (outs : List (List ℕ))
      → Run s group answers t → out ≡ joined answers → Answers t events groups outs u → Answers s (e ∷ events) (group ∷ groups) (out ∷ outs) u
  answers_first s t u e group answers out events groups outs run written rest = record {
    answers = answers ∷ rest.answers;
    run = run_append s t u group (joined groups) answers (joined rest.answers) run rest.run;
    each = (run_length s t group answers run, rest.each);
    given = ap₂ (λ x xs. x ∷ xs) written rest.given;
    shares = λ c. shares_by (connection_of e == c) out (on c events outs) answers (on c events rest.answers) written (rest.shares c);
  }

  answered : (s t : State) (rests fed last : Connections) (events : List Event) (outs : List (List ℕ)) → Follow (limit_in s) rests fed → Behaves s rests events outs t last
      → (groups : List (List Req)) × (all : Connections) × Order (limit_in s) fed events groups all × Answers s events groups outs t
  answered s _ rests fed _ _ _ follow does_nothing = ([], fed, no_events, record { answers = []; run = done; each = tt; given = refl; shares = λ c. refl })
  answered s t rests fed last _ _ follow (does_first {t = u} {between = between} {e = e} {out = out} {events = events} {outs = outs} h k) =
      let here = completed s u rests fed between e out follow h in
      let same = does_limit h in
      let rest = answered u t between here.next last events outs (subst (λ n. Follow n between here.next) (sym same) here.follow) k in
      (here.group ∷ rest.0, rest.1, first here.completes (subst (λ n. Order n here.next events rest.0 rest.1) same rest.2), answers_first s u t e here.group here.answers out events rest.0 outs here.run here.written rest.3)

  pub in_order_lem : InOrder
  in_order_lem s t events outs rests h = answered s t all_closed all_closed rests events outs (λ c. shut) h
