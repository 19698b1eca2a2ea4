-- Rounds of a server, and what happens in them.
use Rattle.std.proofs.Common.{◌≡◌, ◌∙◌, ◌<◌, ◌≤◌, ◌+◌, ◌-◌, ◌++◌, ◌⊎◌, inl, inr, ℕ, List, [], ◌∷◌, Bool, true, false, length, Option, None, Result, Ok, Err, get_or, refl, sym, ap, subst, arith, append-nil, length-append, zero-add}
use Rattle.std.specs.Prelude.{◌==◌, slice_set}
use Rattle.std.proofs.lemmas.Bool.{cases_lt, cases_order}
use Rattle.std.proofs.lemmas.List.{get_or_past, get_or-set_same, get_or-set_other}
use Rattle.gql_http.specs.declared.hub.Hub.{Hub}
use Rattle.gql_server.proofs.Growing.{grows_join, grows_nothing, grows_until}
use Rattle.gql_server.proofs.Noting.{noted_talks}
use Rattle.gql_server.proofs.Rooming.{free_talks, other_number, place_of, runs_as, runs_at, runs_join, same_number}
use Rattle.gql_server.specs.Rooms.{AreOver, Moves, Runs, RunsThrough, Talks, no_talks, nothing_happens, talk_in, talks_of, then_waits}
use Rattle.gql_server.specs.Rounds.{Admits, AreAccepted, AreFree, AreNoted, Ends, IsAdmitted, IsFresh, IsIdle, IsRound, IsServed, Rounds, Seats, Serves, next_round, no_round}
use Rattle.gql_server.specs.Seated.{Seated}
use Rattle.gql_server.specs.Seats.{HaveTheirTurns}
use Rattle.gql_server.specs.Traffic.{Grows, Line, Traffic, joined, no_traffic, reports_one}
use Rattle.gql_server.specs.declared.fault.ServeFault.{ServeFault}
use Rattle.gql_server.specs.declared.report.Report.{Report}

-- ---- connections that are accepted

pub admits_stay : (bound : ℕ) (a : Hub) (seats : Seats) → Admits bound a seats no_traffic a seats
admits_stay bound a seats = record { runs = nothing_happens; seats = λ c. inl refl }

then_admitted : (x y z : Option Seated) → IsAdmitted x y → IsAdmitted y z → IsAdmitted x z
then_admitted x y z (inl e) (inl f) = inl (f ∙ e)
then_admitted x y z (inl e) (inr f) = inr (subst IsIdle e f.0, f.1)
then_admitted x y z (inr f) (inl e) = inr (f.0, subst IsFresh (sym e) f.1)
then_admitted x y z (inr f) (inr h) = inr (f.0, h.1)

pub admits_join : (bound : ℕ) (a b d : Hub) (x y z : Seats) (s t : Traffic) → Admits bound a x s b y
    → Admits bound b y t d z → Admits bound a x (joined s t) d z
admits_join bound a b d x y z s t p q = record {
  runs = runs_join bound a b (talks_of x) (talks_of y) d (talks_of z) s t p.runs q.runs;
  seats = λ c. then_admitted _ _ _ (p.seats c) (q.seats c);
}

one_admitted : (seats : Seats) (n d : ℕ) (slot : Option Seated) (b : Bool) → (d == n) ≡ b
    → n < length seats → IsIdle (get_or seats n None) → IsFresh slot
    → IsAdmitted (get_or seats d None) (get_or (slice_set seats n slot) d None)
one_admitted seats n d slot true is within idle fresh =
    subst (λ m. IsAdmitted (get_or seats m None) (get_or (slice_set seats n slot) m None)) (sym (same_number d n is))
    (inr (idle, subst IsFresh (sym (get_or-set_same seats n slot None within)) fresh))
one_admitted seats n d slot false is within idle fresh =
    inl (get_or-set_other seats n d slot None (other_number d n is))

-- a connection gets the seat at a place n, which is its number
pub admits_at : (bound c n : ℕ) (a b : Hub) (seats : Seats) (any slot : Option Seated) (x : Traffic)
    → bound ≤ 16 → c < bound → n ≡ c → length seats ≡ 16
    → Moves bound c a (talk_in (get_or seats n any)) x b (talk_in slot)
    → IsIdle (get_or seats c None) → IsFresh slot → Admits bound a seats x b (slice_set seats n slot)
admits_at bound c n a b seats any slot x most below same size moves idle fresh = record {
  runs = runs_at bound c n a b seats any slot x most below same size moves;
  seats = λ d. one_admitted seats n d slot (d == n) refl (place_of bound c n (length seats) most below same size)
      (subst (λ m. IsIdle (get_or seats m None)) (sym same) idle) fresh;
}

-- how many connections are accepted and left
pub count_join : (s t : Traffic) (k m n : ℕ) → length s.accepted + m ≡ k
    → length t.accepted + n ≡ m → length (s.accepted ++ t.accepted) + n ≡ k
count_join s t k m n first last = omega (arith, first, last, length-append s.accepted t.accepted)

-- one connection is accepted, and one less is left
pub count_one : (line : Line) (more : List Line) (n : ℕ) → more ≡ [] → 0 < n
    → length (line ∷ ([] ++ more)) + (n - 1) ≡ n
count_one line more n none some = rw none (omega (arith, some))

-- what is known after connections were accepted: what the network did, and how many are left
abbrev pub Admitting : ℕ → Option Traffic → Option Traffic → Hub → Seats → Hub → Seats → ℕ → ℕ → Type 0
Admitting bound u v a x b y k m =
    (t : Traffic) × Grows u v t × Admits bound a x t b y × (length t.accepted + m ≡ k)

pub admitting_none : (bound : ℕ) (u v : Option Traffic) (a : Hub) (x : Seats) (k : ℕ) → v ≡ u
    → Admitting bound u v a x a x k k
admitting_none bound u v a x k same =
    (no_traffic, grows_nothing u v same, admits_stay bound a x, zero-add k)

pub admitting_join : (bound : ℕ) (u v w : Option Traffic) (a b d : Hub) (x y z : Seats) (k m n : ℕ)
    → Admitting bound u v a x b y k m → Admitting bound v w b y d z m n
    → Admitting bound u w a x d z k n
admitting_join bound u v w a b d x y z k m n p q = (
  joined p.0 q.0,
  grows_join u v w p.0 q.0 p.1 q.1,
  admits_join bound a b d x y z p.0 q.0 p.2 q.2,
  count_join p.0 q.0 k m n p.3 q.3,
)

-- ---- rounds

-- the turns come after the connections that were accepted
pub round_of : (bound : ℕ) (a b d : Hub) (x y z : Seats) (s t : Traffic) → Admits bound a x s b y
    → Runs bound b (talks_of y) t d (talks_of z) → HaveTheirTurns bound y z
    → IsRound bound a x (joined s t) d z
round_of bound a b d x y z s t admits runs turns = record {
  between = b;
  admitted = y;
  coming = s;
  going = t;
  admits = admits;
  runs = runs;
  turns = turns;
  traffic_is = refl;
}

-- as many were accepted as before if none was
pub count_same : (s t : Traffic) (k m : ℕ) → length s.accepted + m ≡ k → t.accepted ≡ []
    → length (s.accepted ++ t.accepted) + m ≡ k
count_same s t k m first none =
    rw none (rw (append-nil s.accepted) first)

-- the rounds and how they end
pub serves_of : (bound many : ℕ) (a b d : Hub) (result : Result (Unit {0}) ServeFault)
    (first x y : Seats) (s t : Traffic) → AreFree first → Rounds bound a first s b x
    → Ends bound result b x t d y → AreAccepted many result (joined s t)
    → Serves bound many a result (joined s t) d y
serves_of bound many a b d result first x y s t free rounds ends count = record {
  first = first;
  free = free;
  between = b;
  noted = x;
  during = s;
  ending = t;
  rounds = rounds;
  ends = ends;
  traffic_is = refl;
  count = count;
}

-- what is known after rounds, and what of a step after them
abbrev pub Served : ℕ → Option Traffic → Option Traffic → Hub → Seats → Hub → Seats → ℕ → ℕ → Type 0
Served bound u v a first b x many k =
    (t : Traffic) × Grows u v t × Rounds bound a first t b x × (length t.accepted + k ≡ many)

abbrev pub Turned : ℕ → Option Traffic → Option Traffic → Hub → Seats → Hub → Seats → ℕ → ℕ → Type 0
Turned bound v w b x d y k left =
    (t : Traffic) × Grows v w t × IsRound bound b x t d y × (length t.accepted + left ≡ k)

abbrev pub Broken : ℕ → Option Traffic → Option Traffic → Hub → Seats → Hub → Seats → ℕ → ℕ → Type 0
Broken bound v w b x d y k left =
    (t : Traffic) × Grows v w t × (IsRound bound b x t d y ⊎ Admits bound b x t d y)
    × (length t.accepted + left ≡ k)

-- before the first round
pub served_none : (bound : ℕ) (u v : Option Traffic) (a : Hub) (first : Seats) (many : ℕ) → v ≡ u
    → Served bound u v a first a first many many
served_none bound u v a first many same =
    (no_traffic, grows_nothing u v same, no_round, zero-add many)

-- a fault where nothing has been done since the last wait
pub broken_at_once : (bound : ℕ) (v : Option Traffic) (b : Hub) (x : Seats) (k : ℕ)
    → Broken bound v v b x b x k k
broken_at_once bound v b x k =
    (no_traffic, grows_nothing v v refl, inr (admits_stay bound b x), zero-add k)

-- a fault while connections are accepted, and one after a round
pub broken_in : (bound : ℕ) (v w : Option Traffic) (b d : Hub) (x y : Seats) (k left : ℕ)
    → Admitting bound v w b x d y k left → Broken bound v w b x d y k left
broken_in bound v w b d x y k left p = (p.0, p.1, inr p.2, p.3)

pub broken_after : (bound : ℕ) (v w z : Option Traffic) (b d : Hub) (x y : Seats) (k left : ℕ)
    → Turned bound v w b x d y k left → z ≡ w → Broken bound v z b x d y k left
broken_after bound v w z b d x y k left p same = (p.0, grows_until v w z p.0 p.1 same, inl p.2, p.3)

pub fault_ends : (bound many k left : ℕ) (u v w : Option Traffic) (a b d : Hub) (fault : ServeFault)
    (first x y : Seats) → AreFree first → Served bound u v a first b x many k
    → Broken bound v w b x d y k left
    → (t : Traffic) × Grows u w t × Serves bound many a (Err fault) t d y
fault_ends bound many k left u v w a b d fault first x y free p q = (
  joined p.0 q.0,
  grows_join u v w p.0 q.0 p.1 q.1,
  serves_of bound many a b d (Err fault) first x y p.0 q.0 free p.2 q.2
      (let first = p.3 in let last = q.3 in omega (arith, first, last, length-append p.0.accepted q.0.accepted)),
)

pub all_served : (bound many k left : ℕ) (u v w : Option Traffic) (a b d : Hub) (first x y : Seats)
    → AreFree first → Served bound u v a first b x many k → Turned bound v w b x d y k left
    → left ≡ 0 → AreFree y → (t : Traffic) × Grows u w t × Serves bound many a (Ok tt) t d y
all_served bound many k left u v w a b d first x y free p q none over = (
  joined p.0 q.0,
  grows_join u v w p.0 q.0 p.1 q.1,
  serves_of bound many a b d (Ok tt) first x y p.0 q.0 free p.2 (q.2, over)
      (let first = p.3 in let last = q.3 in omega (arith, first, last, none, length-append p.0.accepted q.0.accepted)),
)

-- one more round, and the wait after it
pub rounds_on : (bound many k left next : ℕ) (u v w z : Option Traffic) (a b d : Hub)
    (first x y noted : Seats) (report : Report) → Served bound u v a first b x many k
    → Turned bound v w b x d y k left → Grows w z (reports_one report) → AreNoted report y noted
    → next ≡ left → Served bound u z a first d noted many next
rounds_on bound many k left next u v w z a b d first x y noted report p q grows is same = (
  joined p.0 (joined q.0 (reports_one report)),
  grows_join u v z p.0 (joined q.0 (reports_one report)) p.1 (grows_join v w z q.0 (reports_one report) q.1 grows),
  next_round report p.2 q.2 is,
  rw same (rw (append-nil q.0.accepted) (count_join p.0 q.0 many k left p.3 q.3)),
)

round_runs : (bound : ℕ) (a : Hub) (old : Seats) (t : Traffic) (b : Hub) (new : Seats)
    → IsRound bound a old t b new → Runs bound a (talks_of old) t b (talks_of new)
round_runs bound a old t b new r =
    runs_as bound a (talks_of old) (joined r.coming r.going) t b (talks_of new) (sym r.traffic_is)
    (runs_join bound a r.between (talks_of old) (talks_of r.admitted) b (talks_of new) r.coming r.going r.admits.runs r.runs)

rounds_run : (bound : ℕ) (a : Hub) (first : Seats) (t : Traffic) (b : Hub) (last : Seats)
    → Rounds bound a first t b last → Runs bound a (talks_of first) t b (talks_of last)
rounds_run bound a first _ _ _ no_round = nothing_happens
rounds_run bound a first _ _ _ (next_round {s} {t} {b} {d} {before} {after} {noted} report rounds round is) =
    runs_join bound a b (talks_of first) (talks_of before) d (talks_of noted) s (joined t (reports_one report))
    (rounds_run bound a first s b before rounds)
    (subst (Runs bound b (talks_of before) (joined t (reports_one report)) d) (sym (noted_talks report after noted is))
    (then_waits report (round_runs bound b before t d after round)))

ends_run : (bound : ℕ) (result : Result (Unit {0}) ServeFault) (a : Hub) (old : Seats) (t : Traffic)
    (b : Hub) (new : Seats) → Ends bound result a old t b new
    → Runs bound a (talks_of old) t b (talks_of new)
ends_run bound (Ok done) a old t b new ends = round_runs bound a old t b new ends.0
ends_run bound (Err fault) a old t b new (inl round) = round_runs bound a old t b new round
ends_run bound (Err fault) a old t b new (inr admits) = admits.runs

serves_run : (bound many : ℕ) (a : Hub) (result : Result (Unit {0}) ServeFault) (t : Traffic) (b : Hub)
    (last : Seats) → Serves bound many a result t b last → Runs bound a no_talks t b (talks_of last)
serves_run bound many a result t b last s =
    runs_as bound a no_talks (joined s.during s.ending) t b (talks_of last) (sym s.traffic_is)
    (runs_join bound a s.between no_talks (talks_of s.noted) b (talks_of last) s.during s.ending
    (subst (λ talks. Runs bound a talks s.during s.between (talks_of s.noted)) (free_talks s.first s.free) (rounds_run bound a s.first s.during s.between s.noted s.rounds))
    (ends_run bound result s.between s.noted s.ending b last s.ends))

-- all that happens while a server serves, to the end
pub served_runs : (bound many : ℕ) (a : Hub) (result : Result (Unit {0}) ServeFault) (t : Traffic)
    (b : Hub) → IsServed bound many a result t b → RunsThrough bound a t b
served_runs bound many a result t b s = (
  s.last,
  runs_as bound a no_talks (joined s.serving s.closing) t b s.last (sym s.traffic_is)
      (runs_join bound a s.between no_talks (talks_of s.left) b s.last s.serving s.closing
      (serves_run bound many a result s.serving s.between s.left s.serves) s.closes),
  s.over,
)

-- serving, and the connections that leave in the end
pub served_of : (bound many : ℕ) (a b d : Hub) (result : Result (Unit {0}) ServeFault) (s t : Traffic)
    (left : Seats) (last : Talks) → Serves bound many a result s b left
    → Runs bound b (talks_of left) t d last → AreOver bound last → t.accepted ≡ []
    → IsServed bound many a result (joined s t) d
served_of bound many a b d result s t left last serves runs over none = record {
  between = b;
  left = left;
  last = last;
  serving = s;
  closing = t;
  serves = serves;
  closes = runs;
  over = over;
  none_accepted = none;
  traffic_is = refl;
}

-- ---- seats whose connections leave

pub none_over : (seats : Seats) → AreOver 0 (talks_of seats)
none_over seats c less = absurd (omega (arith, less))

-- one more is over
pub over_more : (n m : ℕ) (seats : Seats) (slot : Option Seated) → m ≡ n → n < length seats
    → slot ≡ None → AreOver n (talks_of seats) → AreOver (n + 1) (talks_of (slice_set seats m slot))
over_more n m seats slot same within free over c less =
    subst (λ (i : ℕ). talk_in (get_or (slice_set seats i slot) c None) ≡ None) (sym same) (more (cases_order c n))
  where
    more : (c ≡ n) ⊎ ((c < n) ⊎ (n < c)) → talk_in (get_or (slice_set seats n slot) c None) ≡ None
    more (inl is) = ap (λ (d : ℕ). talk_in (get_or (slice_set seats n slot) d None)) is
        ∙ ap talk_in (get_or-set_same seats n slot None within ∙ free)
    more (inr (inl below)) =
        ap talk_in (get_or-set_other seats n c slot None (λ e. omega (arith, e, below))) ∙ over c below
    more (inr (inr above)) = absurd (omega (arith, less, above))

-- one more seat is free
pub free_more : (n : ℕ) (seats : Seats) → ((c : ℕ) → c < n → get_or seats c None ≡ None)
    → get_or seats n None ≡ None → (c : ℕ) → c < n + 1 → get_or seats c None ≡ None
free_more n seats free this c less = more (cases_order c n)
  where
    more : (c ≡ n) ⊎ ((c < n) ⊎ (n < c)) → get_or seats c None ≡ None
    more (inl is) = ap (λ (d : ℕ). get_or seats d None) is ∙ this
    more (inr (inl below)) = free c below
    more (inr (inr above)) = absurd (omega (arith, less, above))

free_by : (n c : ℕ) (seats : Seats) → ((c : ℕ) → c < n → get_or seats c None ≡ None)
    → length seats ≡ n → (c < n) ⊎ (n ≤ c) → get_or seats c None ≡ None
free_by n c seats free size (inl less) = free c less
free_by n c seats free size (inr above) = get_or_past seats c None (omega (arith, size, above))

-- all seats are free
pub all_free : (n : ℕ) (seats : Seats) → ((c : ℕ) → c < n → get_or seats c None ≡ None)
    → length seats ≡ n → AreFree seats
all_free n seats free size c = free_by n c seats free size (cases_lt c n)
