-- Pieces of a connection's bytes, one after the other.
use Rattle.std.proofs.Common.{◌≡◌, ℕ, ◌+◌, ◌-◌, ◌<◌, ◌≤◌, List, [], ◌∷◌, ◌++◌, length, map, filter, All, Bool, true, false, cond, Option, Some, None, nat_lt, refl, sym, ap, ◌∙◌, subst, arith, append_assoc, add_assoc, zero-add}
use Rattle.std.proofs.lemmas.Bool.Decides.{nat_tests}
use Rattle.std.proofs.lemmas.List.Elements.{All-head, All-tail}
use Rattle.gql_registry.specs.State.{State}
use Rattle.gql_wire.specs.Stream.{Req, Placed, Splits, unfinished, last, next, closes, StaysOpen}
use Rattle.gql_wire.specs.Laws.{MoreBytes, SomeSplit, OneSplit, NothingUnfinished, EndsWithinFirst, EndsAfterFirst}
use Rattle.gql_http.specs.Service.{Run, done, more}
use Rattle.gql_http.specs.Connections.{requests_of, joined, is_closed, Serves}
use Rattle.gql_http.specs.Limits.{limit_in}
use Rattle.gql_http.specs.Order.{completed_after}
use Rattle.gql_http.proofs.KeptLimit.{run_limit}

-- the requests, this many bytes later
abbrev pub later : ℕ → List Placed → List Placed
later k = map (λ (p : Placed). record { request = p.request; end = k + p.end })

pub requests_later : (k : ℕ) (ps : List Placed) → requests_of (later k ps) ≡ requests_of ps
requests_later k [] = refl
requests_later k (p ∷ ps) = ap (λ rs. p.request ∷ rs) (requests_later k ps)

pub splits_later : {limit : ℕ} → (k at : ℕ) (bytes : List ℕ) (rs : List Placed) (r : List ℕ) → Splits limit at bytes rs r → Splits limit (k + at) bytes (later k rs) r
splits_later k at bytes _ r (unfinished u e) = unfinished u e
splits_later {limit} k at bytes _ _ (last {front = a} m {r = x} g c e) =
    let same : ◌≡◌ {A = Placed} (record { request = x; end = (k + at) + length a }) (record { request = x; end = k + (at + length a) }) = ap (λ n. record { request = x; end = n }) (add_assoc k at (length a)) in
    subst (λ (p : Placed). Splits limit (k + at) bytes (p ∷ []) []) same (last m g c e)
splits_later {limit} k at bytes _ r (next {front = a} {more = m} {r = x} {rs = xs} g c e s) =
    let same : ◌≡◌ {A = Placed} (record { request = x; end = (k + at) + length a }) (record { request = x; end = k + (at + length a) }) = ap (λ n. record { request = x; end = n }) (add_assoc k at (length a)) in
    let after_it : Splits limit ((k + at) + length a) m (later k xs) r = subst (λ n. Splits limit n m (later k xs) r) (sym (add_assoc k at (length a))) (splits_later k (at + length a) m xs r s) in
    subst (λ (p : Placed). Splits limit (k + at) bytes (p ∷ later k xs) r) same (next g c e after_it)

stays_by : (b : Bool) (rs : List Placed) → cond b true (is_closed (requests_of rs)) ≡ false → (is_closed (requests_of rs) ≡ false → StaysOpen rs) → (b ≡ false) × StaysOpen rs
stays_by true rs h go = absurd (let e : true ≡ false = h in cc)
stays_by false rs h go = (refl, go h)

pub stays_open : (rs : List Placed) → is_closed (requests_of rs) ≡ false → StaysOpen rs
stays_open [] h = tt
stays_open (p ∷ rs) h = stays_by (closes p.request) rs h (stays_open rs)

pub not_closed : (rs : List Placed) → StaysOpen rs → is_closed (requests_of rs) ≡ false
not_closed [] h = refl
not_closed (p ∷ rs) h = rw h.0 (not_closed rs h.1)

pub stays_clash : (ps : List Placed) → is_closed (requests_of ps) ≡ true → StaysOpen ps → ⊥
stays_clash ps is stays = let clash : true ≡ false = sym is ∙ not_closed ps stays in cc

pub run_append : (s u t : State) (rs qs : List Req) (ls ms : List (List ℕ)) → Run s rs ls u → Run u qs ms t → Run s (rs ++ qs) (ls ++ ms) t
run_append s _ t _ qs _ ms done run = run
run_append s u t _ qs _ ms (more first rest) run = more first (run_append _ u t _ qs _ ms rest run)

pub requests_append : (ps qs : List Placed) → requests_of (ps ++ qs) ≡ requests_of ps ++ requests_of qs
requests_append [] qs = refl
requests_append (p ∷ ps) qs = ap (λ rs. p.request ∷ rs) (requests_append ps qs)

pub joined_append : {A : Type 0} → (ls ms : List (List A)) → joined (ls ++ ms) ≡ joined ls ++ joined ms
joined_append [] ms = refl
joined_append (l ∷ ls) ms = ap (λ xs. l ++ xs) (joined_append ls ms) ∙ sym (append_assoc l (joined ls) (joined ms))

closed_append_by : (b : Bool) (rs qs : List Req) → cond b true (is_closed rs) ≡ false → (is_closed rs ≡ false → is_closed (rs ++ qs) ≡ is_closed qs) → cond b true (is_closed (rs ++ qs)) ≡ is_closed qs
closed_append_by true rs qs h go = cc
closed_append_by false rs qs h go = go h

closed_append : (rs qs : List Req) → is_closed rs ≡ false → is_closed (rs ++ qs) ≡ is_closed qs
closed_append [] qs h = refl
closed_append (r ∷ rs) qs h = closed_append_by (closes r) rs qs h (closed_append rs qs)

-- more requests close a connection that was open exactly where one of them does
pub closed_by_more : (ps qs : List Placed) → StaysOpen ps → is_closed (requests_of (ps ++ qs)) ≡ is_closed (requests_of qs)
closed_by_more ps qs h = ap is_closed (requests_append ps qs) ∙ closed_append (requests_of ps) (requests_of qs) (not_closed ps h)

pub some_same : {A : Type 0} → (a b : A) → ◌≡◌ {A = Option A} (Some a) (Some b) → a ≡ b
some_same a b e = cc

-- ---- which of the requests are complete later

dropped_by : (n : ℕ) (ps : List Placed) → All (EndsWithinFirst n) ps → filter (λ (p : Placed). nat_lt n p.end) ps ≡ []
dropped_by n [] all = refl
dropped_by n (p ∷ ps) all =
    let here : p.end ≤ n = All-head (EndsWithinFirst n) p ps all in
    let no : nat_lt n p.end ≡ false = grind (arith, nat_tests) in
    rw no (dropped_by n ps (All-tail (EndsWithinFirst n) p ps all))

kept_by : (n : ℕ) (ps : List Placed) → All (EndsAfterFirst n) ps → filter (λ (p : Placed). nat_lt n p.end) ps ≡ ps
kept_by n [] all = refl
kept_by n (p ∷ ps) all =
    let here : n < p.end = All-head (EndsAfterFirst n) p ps all in
    let yes : nat_lt n p.end ≡ true = grind (arith, nat_tests) in
    rw yes (ap (λ qs. p ∷ qs) (kept_by n ps (All-tail (EndsAfterFirst n) p ps all)))

filter_append : (n : ℕ) (ps qs : List Placed) → filter (λ (p : Placed). nat_lt n p.end) (ps ++ qs) ≡ filter (λ (p : Placed). nat_lt n p.end) ps ++ filter (λ (p : Placed). nat_lt n p.end) qs
filter_append n [] qs = refl
filter_append n (p ∷ ps) qs = by (nat_lt n p.end) refl (filter_append n ps qs)
  where
    by : (b : Bool) → nat_lt n p.end ≡ b → filter (λ (q : Placed). nat_lt n q.end) (ps ++ qs) ≡ filter (λ (q : Placed). nat_lt n q.end) ps ++ filter (λ (q : Placed). nat_lt n q.end) qs
        → filter (λ (q : Placed). nat_lt n q.end) (p ∷ (ps ++ qs)) ≡ filter (λ (q : Placed). nat_lt n q.end) (p ∷ ps) ++ filter (λ (q : Placed). nat_lt n q.end) qs
    by true is h = rw is (ap (λ xs. p ∷ xs) h)
    by false is h = rw is h

-- those that are complete in the later bytes
pub later_ones : (n : ℕ) (ps qs : List Placed) → All (EndsWithinFirst n) ps → All (EndsAfterFirst n) qs → completed_after n (ps ++ qs) ≡ requests_of qs
later_ones n ps qs early late =
    ap requests_of (filter_append n ps qs ∙ ap (λ xs. xs ++ filter (λ (p : Placed). nat_lt n p.end) qs) (dropped_by n ps early) ∙ kept_by n qs late)

-- ---- whole bytes, of which the requests so far left a rest

-- the requests of all bytes, where those of the rest and of a piece are known
pub record Whole (limit : ℕ) (bytes piece : List ℕ) (before : List Placed) (after : List Placed) (left : List ℕ) : Type 0 where
  pub further : List Placed
  pub splits : Splits limit 0 (bytes ++ piece) (before ++ further) left
  pub same : requests_of further ≡ requests_of after
  pub early : All (EndsWithinFirst (length bytes)) before
  pub late : All (EndsAfterFirst (length bytes)) further

module _ (some : SomeSplit) (one : OneSplit) (more_bytes : MoreBytes) where
  pub whole : {limit : ℕ} → (bytes piece held left : List ℕ) (before after : List Placed) → Splits limit 0 bytes before held → StaysOpen before → Splits limit 0 (held ++ piece) after left
      → Whole limit bytes piece before after left
  whole {limit} bytes piece held left before after h unclosed k =
      let all = some limit 0 (bytes ++ piece) in
      let m = more_bytes limit 0 bytes piece before all.0 held all.1 h unclosed all.2 in
      let n = 0 + (length bytes - length held) in
      let moved : Splits limit n (held ++ piece) (later n after) left = subst (λ i. Splits limit i (held ++ piece) (later n after) left) (omega arith) (splits_later n 0 (held ++ piece) after left k) in
      let same = one limit n (held ++ piece) m.0 (later n after) all.1 left m.2 moved in
      record {
        further = m.0;
        splits = subst (λ r. Splits limit 0 (bytes ++ piece) (before ++ m.0) r) same.1 (subst (λ ps. Splits limit 0 (bytes ++ piece) ps all.1) m.1 all.2);
        same = ap requests_of same.0 ∙ requests_later n after;
        early = subst (λ i. All (EndsWithinFirst i) before) (zero-add (length bytes)) m.3;
        late = subst (λ i. All (EndsAfterFirst i) m.0) (zero-add (length bytes)) m.4;
      }

-- the requests of all bytes are those so far and further ones, which are complete later
pub continued : {limit : ℕ} → MoreBytes → (bytes piece left rest : List ℕ) (before all : List Placed) → Splits limit 0 bytes before left → StaysOpen before → Splits limit 0 (bytes ++ piece) all rest
    → (further : List Placed) × (all ≡ before ++ further) × (completed_after (length bytes) all ≡ requests_of further)
continued {limit} more_bytes bytes piece left rest before all h stays k =
    let m = more_bytes limit 0 bytes piece before all left rest h stays k in
    let early = subst (λ i. All (EndsWithinFirst i) before) (zero-add (length bytes)) m.3 in
    let late = subst (λ i. All (EndsAfterFirst i) m.0) (zero-add (length bytes)) m.4 in
    (m.0, m.1, ap (completed_after (length bytes)) m.1 ∙ later_ones (length bytes) before m.0 early late)

-- ---- two pieces

-- what a piece and then another are answered, is what both together are
pub serves_join : (some : SomeSplit) → (one : OneSplit) → (more_bytes : MoreBytes) → {s u t : State} {a out more_out held : List ℕ} (b : List ℕ) {rest : Option (List ℕ)} → Serves s a out u (Some held)
    → Serves u (held ++ b) more_out t rest → Serves s (a ++ b) (out ++ more_out) t rest
serves_join some one more_bytes {s} {u} {t} {a} {out} {more_out} {held} b {rest} h k =
    let opened = left_open (is_closed (requests_of h.requests)) refl h.left in
    let unclosed = stays_open h.requests opened.0 in
    let first : Splits (limit_in s) 0 a h.requests held = subst (λ r. Splits (limit_in s) 0 a h.requests r) (sym opened.1) h.splits in
    let w = whole some one more_bytes a b held k.rest h.requests k.requests first unclosed (subst (λ n. Splits n 0 (held ++ b) k.requests k.rest) (run_limit h.run) k.splits) in
    let both : requests_of (h.requests ++ w.further) ≡ requests_of h.requests ++ requests_of k.requests = requests_append h.requests w.further ∙ ap (λ rs. requests_of h.requests ++ rs) w.same in
    record {
      requests = h.requests ++ w.further;
      rest = k.rest;
      answers = h.answers ++ k.answers;
      splits = w.splits;
      run = subst (λ rs. Run s rs (h.answers ++ k.answers) t) (sym both) (run_append s u t (requests_of h.requests) (requests_of k.requests) h.answers k.answers h.run k.run);
      written = ap (λ xs. xs ++ more_out) h.written ∙ ap (λ xs. joined h.answers ++ xs) k.written ∙ sym (joined_append h.answers k.answers);
      left = k.left ∙ ap (λ c. cond c None (Some k.rest)) (sym (closed_by_more h.requests w.further unclosed ∙ ap is_closed w.same));
    }
  where
    left_open : (b : Bool) → is_closed (requests_of h.requests) ≡ b → Some held ≡ cond b None (Some h.rest) → (is_closed (requests_of h.requests) ≡ false) × (held ≡ h.rest)
    left_open true is e = absurd (let clash : ◌≡◌ {A = Option (List ℕ)} (Some held) None = e in cc)
    left_open false is e = (is, some_same held h.rest e)

-- no bytes are answered nothing
pub serves_nothing : NothingUnfinished → (s : State) → Serves s [] [] s (Some [])
serves_nothing nothing s = record { requests = []; rest = []; answers = []; splits = unfinished (nothing (limit_in s)) refl; run = done; written = refl; left = refl }
