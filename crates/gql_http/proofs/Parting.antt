-- The parts of a piece, one after the other.
use Rattle.std.proofs.Common.{◌≡◌, inl, inr, ℕ, List, [], ◌∷◌, ◌++◌, length, take, drop, Bool, true, false, cond, Option, Some, None, IsSome, refl, sym, ap, ◌∙◌, subst, append_assoc, append-nil, arith}
use Rattle.std.specs.Prelude.{is_none}
use Rattle.std.specs.List.{concat}
use Rattle.std.proofs.lemmas.List.{take-append-drop, map-append}
use Rattle.std.proofs.lemmas.List.Folds.{concat-append}
use Rattle.std.proofs.Math.Seq.{take-append_seam}
use Rattle.gql_registry.specs.State.{State}
use Rattle.gql_wire.specs.Peer.{Passage, sent, Adds, SendsAll, SendsFront}
use Rattle.gql_wire.specs.Stream.{Placed, Splits, unfinished}
use Rattle.gql_wire.specs.Laws.{MoreBytes, SomeSplit, OneSplit, Closed, RestUnfinished}
use Rattle.gql_http.specs.Connections.{requests_of, is_closed, Serves, Breaks}
use Rattle.gql_http.specs.Events.{Event, breaks, Connections, Does, does_break, ignores}
use Rattle.gql_http.specs.Hubs.{IsFeedOf}
use Rattle.gql_http.specs.Limits.{limit_in}
use Rattle.gql_http.specs.Parts.{Holds, Made, IsServed}
use Rattle.gql_http.specs.declared.parts.Served.{Served}
use Rattle.gql_http.specs.Service.{Run, done}
use Rattle.gql_http.proofs.Exchanging.{adds_nil, adds_append, breaks_join, fed_serves, fed_breaks, none_of}
use Rattle.gql_http.proofs.Framers.{changed, some_none}
use Rattle.gql_http.proofs.KeptLimit.{run_limit}
use Rattle.gql_http.proofs.Joining.{serves_join, stays_open, stays_clash, requests_append, some_same}

-- the parts that were fed so far are answered, and the connection is open
pub record Parted (s : State) (before : Option (List ℕ)) (piece rest : List ℕ) (u : State) (now : Option (List ℕ)) (out : List ℕ) : Type 0 where
  pub held : List ℕ
  pub holds : Holds s before held
  pub fed : List ℕ
  pub cut : fed ++ rest ≡ piece
  pub left : List ℕ
  pub serves : Serves s (held ++ fed) out u (Some left)
  pub stays : now ≡ Some left

pub parted_init : (s : State) (before : Option (List ℕ)) (piece held : List ℕ) → Holds s before held → Parted s before piece piece s before []
parted_init s before piece held holds = record {
  held = held;
  holds = holds;
  fed = [];
  cut = refl;
  left = held;
  serves = subst (λ bytes. Serves s bytes [] s (Some held)) (sym (append-nil held)) holds.1;
  stays = holds.0;
}

pub is_open : (o : Option (List ℕ)) (a : List ℕ) → o ≡ Some a → IsSome o
is_open o a is = rw is refl

pub none_left : (xs : List ℕ) → length xs ≡ 0 → xs ≡ []
none_left [] is = refl
none_left (x ∷ xs) is = absurd (omega (arith, is))

-- an open connection has bytes
pub open_bytes : (o : Option (List ℕ)) → IsSome o → (bytes : List ℕ) × (o ≡ Some bytes)
open_bytes (Some bytes) some = (bytes, refl)
open_bytes None some = absurd (some_none None some refl)

-- ---- what was sent

pub sends_none : (a : Option (List Passage)) → SendsAll a a []
sends_none a = ([], adds_nil a, refl)

pub sends_more : (a b c : Option (List Passage)) (xs ys : List ℕ) → SendsAll a b xs → SendsAll b c ys → SendsAll a c (xs ++ ys)
sends_more a b c xs ys (ps, padds, pis) (qs, qadds, qis) = (
  ps ++ qs,
  subst (Adds a c) (sym (map-append sent ps qs)) (adds_append a b c _ _ padds qadds),
  concat-append ps qs ∙ ap (λ zs. zs ++ concat qs) pis ∙ ap (λ zs. xs ++ zs) qis,
)

-- a write failed
pub sends_part : (a b c : Option (List Passage)) (xs ys : List ℕ) → SendsAll a b xs → SendsFront b c ys → SendsFront a c (xs ++ ys)
sends_part a b c xs ys (ps, padds, pis) (qs, unsent, qadds, qis) = (
  ps ++ qs,
  unsent,
  subst (Adds a c) (sym (map-append sent ps qs)) (adds_append a b c _ _ padds qadds),
  ap (λ l. l ++ ys) (sym pis)
      ∙ ap (λ l. concat ps ++ l) qis
      ∙ sym (append_assoc (concat ps) (concat qs) unsent)
      ∙ ap (λ l. l ++ unsent) (sym (concat-append ps qs)),
)

-- more answers would have followed
pub sends_unsent : (a b : Option (List Passage)) (xs zs : List ℕ) → SendsFront a b xs → SendsFront a b (xs ++ zs)
sends_unsent a b xs zs (ps, unsent, adds, is) = (ps, unsent ++ zs, adds, ap (λ l. l ++ zs) is ∙ append_assoc (concat ps) unsent zs)

-- a list that was split in two
pub cut_at : (n : ℕ) (xs part later : List ℕ) → part ≡ take n xs → later ≡ drop n xs → part ++ later ≡ xs
cut_at n xs part later front back = ap (λ l. l ++ later) front ∙ ap (λ l. take n xs ++ l) back ∙ take-append-drop n xs

-- what a piece did, of the bytes that were held
pub with_held : (r : Served) (a b : Option (List Passage)) (u t : State) (now next : Option (List ℕ)) (x held piece : List ℕ) → Holds u now x → now ≡ Some held → IsServed r a b u (x ++ piece) t next
    → IsServed r a b u (held ++ piece) t next
with_held r a b u t now next x held piece holds is h = subst (λ bytes. IsServed r a b u (bytes ++ piece) t next) (some_same x held (sym holds.0 ∙ is)) h

-- ---- what a feed does

-- a feed that leaves the connection open answers all that it was fed
pub fed_open : (s t : State) (rests next : Connections) (c : ℕ) (piece out held : List ℕ) (memory : Bool) (e : Event) → IsFeedOf c piece memory e → Does s rests e out t next → rests c ≡ Some held
    → is_none (next c) ≡ false → Serves s (held ++ piece) out t (next c)
fed_open s t rests next c piece out held false e is does here open_next = fed_serves s t rests next c piece out held e is does here
fed_open s t rests next c piece out held true e is does here open_next = absurd (by (subst (λ f. Does s rests f out t next) is.1 does) open_next)
  where
    by : {t : State} {out : List ℕ} {next : Connections} → Does s rests (breaks c piece is.0) out t next → is_none (next c) ≡ false → ⊥
    by (does_break there h) shut = let clash : true ≡ false = ap is_none (sym (changed rests c None)) ∙ shut in cc
    by (ignores barred) shut = barred (rw here refl)

-- bytes that are left of others are held for an unfinished request
pub holds_left : RestUnfinished → {s u : State} {a out left : List ℕ} {now : Option (List ℕ)} → Serves s a out u (Some left) → now ≡ Some left → Holds u now left
holds_left unfinished_rest {s} {u} {a} {out} {left} {now} h stays =
    let is = by (is_closed (requests_of h.requests)) h.left in
    let still = unfinished_rest (limit_in s) 0 a h.requests h.rest h.splits in (
      stays,
      subst (λ bytes. Serves u bytes [] u (Some bytes)) (sym is) (record {
        requests = [];
        rest = h.rest;
        answers = [];
        splits = subst (λ n. Splits n 0 h.rest [] h.rest) (sym (run_limit h.run)) (unfinished still.0 (sym still.1));
        run = done;
        written = refl;
        left = refl;
      }),
    )
  where
    by : (b : Bool) → Some left ≡ cond b None (Some h.rest) → left ≡ h.rest
    by true e = absurd (let clash : ◌≡◌ {A = Option (List ℕ)} (Some left) None = e in cc)
    by false e = some_same left h.rest e

shut_by : (b : Bool) (rest : List ℕ) → ◌≡◌ {A = Option (List ℕ)} None (cond b None (Some rest)) → b ≡ true
shut_by true rest e = refl
shut_by false rest e = absurd (let clash : ◌≡◌ {A = Option (List ℕ)} None (Some rest) = e in cc)

-- the bytes after a request that closes the connection are dropped
serves_drop : Closed → {s t : State} {a out : List ℕ} (b : List ℕ) → Serves s a out t None → Serves s (a ++ b) out t None
serves_drop drops {s} {t} {a} {out} b h = record {
  requests = h.requests;
  rest = h.rest;
  answers = h.answers;
  splits = drops (limit_in s) 0 a b h.requests h.rest h.splits (stays_clash h.requests (shut_by (is_closed (requests_of h.requests)) h.rest h.left));
  run = h.run;
  written = h.written;
  left = h.left;
}

-- the first requests of bytes are the first of more bytes
first_requests : (ps qs : List Placed) (made : ℕ) → take (length (take made (requests_of ps))) (requests_of (ps ++ qs)) ≡ take made (requests_of ps)
first_requests ps qs made =
    let front = take made (requests_of ps) in
    let more = drop made (requests_of ps) in
    ap (take (length front)) (
    requests_append ps qs
    ∙ ap (λ rs. rs ++ requests_of qs) (sym (take-append-drop made (requests_of ps)))
    ∙ append_assoc front more (requests_of qs)
    )
    ∙ take-append_seam front (more ++ requests_of qs)

-- an allocation failed, and more bytes follow
breaks_more : SomeSplit → MoreBytes → Closed → {s t : State} {a out : List ℕ} (b : List ℕ) (made : ℕ) → Breaks s a out t made → (made : ℕ) × Breaks s (a ++ b) out t made
breaks_more some more_bytes drops {s} {t} {a} {out} b made h = by (is_closed (requests_of h.requests)) refl
  where
    by : (closed : Bool) → is_closed (requests_of h.requests) ≡ closed → (made : ℕ) × Breaks s (a ++ b) out t made
    by true is = (
      made,
      record {
        requests = h.requests;
        rest = h.rest;
        answers = h.answers;
        splits = drops (limit_in s) 0 a b h.requests h.rest h.splits (stays_clash h.requests is);
        run = h.run;
        written = h.written;
      },
    )
    by false is =
        let all = some (limit_in s) 0 (a ++ b) in
        let m = more_bytes (limit_in s) 0 a b h.requests all.0 h.rest all.1 h.splits (stays_open h.requests is) all.2 in (
          length (take made (requests_of h.requests)),
          record {
            requests = h.requests ++ m.0;
            rest = all.1;
            answers = h.answers;
            splits = subst (λ ps. Splits (limit_in s) 0 (a ++ b) ps all.1) m.1 all.2;
            run = subst (λ rs. Run s rs h.answers t) (sym (first_requests h.requests m.0 made)) h.run;
            written = h.written;
          },
        )

module _ (some : SomeSplit) (one : OneSplit) (more_bytes : MoreBytes) where
  module _ {s u : State} {before now : Option (List ℕ)} {piece rest so_far : List ℕ} (p : Parted s before piece rest u now so_far) where
    whole_piece : (p.held ++ p.fed) ++ rest ≡ p.held ++ piece
    whole_piece = append_assoc p.held p.fed rest ∙ ap (λ bytes. p.held ++ bytes) p.cut

    -- one more part, after which the connection is open
    pub parted_more : (t : State) (part later out : List ℕ) (next : Option (List ℕ)) (left : List ℕ) → part ++ later ≡ rest → Serves u (p.left ++ part) out t next → next ≡ Some left
        → Parted s before piece later t next (so_far ++ out)
    parted_more t part later out next left cut h still = record {
      held = p.held;
      holds = p.holds;
      fed = p.fed ++ part;
      cut = append_assoc p.fed part later ∙ ap (λ bytes. p.fed ++ bytes) cut ∙ p.cut;
      left = left;
      serves = subst (λ r. Serves s (p.held ++ (p.fed ++ part)) (so_far ++ out) t r) still
          (subst (λ bytes. Serves s bytes (so_far ++ out) t next) (append_assoc p.held p.fed part) (serves_join some one more_bytes part p.serves h));
      stays = still;
    }

    -- all parts were fed
    pub parted_all : rest ≡ [] → Serves s (p.held ++ piece) so_far u now
    parted_all none =
        subst (λ r. Serves s (p.held ++ piece) so_far u r) (sym p.stays)
        (subst (λ bytes. Serves s (p.held ++ bytes) so_far u (Some p.left)) (sym (append-nil p.fed) ∙ ap (λ bytes. p.fed ++ bytes) (sym none) ∙ p.cut) p.serves)

    -- the rest was fed
    pub parted_serves : (t : State) (out : List ℕ) (next : Option (List ℕ)) → Serves u (p.left ++ rest) out t next → Serves s (p.held ++ piece) (so_far ++ out) t next
    parted_serves t out next h = subst (λ bytes. Serves s bytes (so_far ++ out) t next) whole_piece (serves_join some one more_bytes rest p.serves h)

    pub parted_breaks : (t : State) (out : List ℕ) (made : ℕ) → Breaks u (p.left ++ rest) out t made → (made : ℕ) × Breaks s (p.held ++ piece) (so_far ++ out) t made
    parted_breaks t out made h =
        let both = breaks_join some one more_bytes rest made p.serves h in (both.0, subst (λ bytes. Breaks s bytes (so_far ++ out) t both.0) whole_piece both.1)

    pub parted_made : (t : State) (out : List ℕ) → Made u (p.left ++ rest) out t → Made s (p.held ++ piece) (so_far ++ out) t
    parted_made t out h = elim h [
      | inl (next, served) ↦ inl (next, parted_serves t out next served)
      | inr (made, broken) ↦ inr (parted_breaks t out made broken)
    ]

    -- what was fed later
    pub parted_rest : (t : State) (held out : List ℕ) → Holds u now held → Made u (held ++ rest) out t → Made s (p.held ++ piece) (so_far ++ out) t
    parted_rest t held out holds h = parted_made t out (subst (λ bytes. Made u (bytes ++ rest) out t) (some_same held p.left (sym holds.0 ∙ p.stays)) h)

    -- a part closed the connection
    pub parted_closed : Closed → (t : State) (part later out : List ℕ) (next : Option (List ℕ)) → part ++ later ≡ rest → Serves u (p.left ++ part) out t next → next ≡ None
        → Serves s (p.held ++ piece) (so_far ++ out) t next
    parted_closed drops t part later out next cut h shut =
        let dropped = serves_drop drops later (subst (λ r. Serves u (p.left ++ part) out t r) shut h) in
        parted_serves t out next
        (subst (λ r. Serves u (p.left ++ rest) out t r) (sym shut)
        (subst (λ bytes. Serves u bytes out t None) (append_assoc p.left part later ∙ ap (λ bytes. p.left ++ bytes) cut) dropped))

    -- an allocation failed in a part
    pub parted_broke : Closed → (t : State) (part later out : List ℕ) (made : ℕ) → part ++ later ≡ rest → Breaks u (p.left ++ part) out t made
        → (made : ℕ) × Breaks s (p.held ++ piece) (so_far ++ out) t made
    parted_broke drops t part later out made cut h =
        let further = breaks_more some more_bytes drops later made h in
        parted_breaks t out further.0
        (subst (λ bytes. Breaks u bytes out t further.0) (append_assoc p.left part later ∙ ap (λ bytes. p.left ++ bytes) cut) further.1)

    -- a feed of a part closed the connection, by a request or by a failed allocation
    pub parted_shut : Closed → (t : State) (rests next : Connections) (c : ℕ) (part later out : List ℕ) (memory : Bool) (e : Event) → part ++ later ≡ rest → rests c ≡ Some p.left → IsFeedOf c part memory e
        → Does u rests e out t next → is_none (next c) ≡ true → Made s (p.held ++ piece) (so_far ++ out) t
    parted_shut drops t rests next c part later out false e cut here is does shut =
        inl (next c, parted_closed drops t part later out (next c) cut (fed_serves u t rests next c part out p.left e is does here) (none_of (next c) shut))
    parted_shut drops t rests next c part later out true e cut here is does shut =
        let broken = fed_breaks u t rests next c part out p.left e is does here in inr (parted_broke drops t part later out broken.0 cut broken.1)
