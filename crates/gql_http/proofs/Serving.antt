-- Requests made one after the other, while the bytes of a connection are taken.
use Rattle.std.proofs.Common.{◌≡◌, ℕ, ◌+◌, ◌≤◌, List, [], ◌∷◌, ◌++◌, length, take, drop, Bool, true, false, cond, Some, None, refl, sym, ap, ◌∙◌, subst, arith, append_assoc, append-nil, length-drop, Result, Ok, Err}
use Rattle.std.specs.Prelude.{OnErr}
use Rattle.std.proofs.lemmas.List.{take-append-drop, drop-drop}
use Rattle.std.proofs.lemmas.Grind.{common_steps}
use Rattle.gql_registry.specs.State.{State}
use Rattle.gql_wire.specs.Stream.{Req, IsRequest, IsUnfinished, Placed, Splits, unfinished, last, next, closes, skip_blank}
use Rattle.gql_wire.specs.Laws.{SomeSplit}
use Rattle.gql_http.specs.Service.{Step, Run, done, more}
use Rattle.gql_http.specs.Connections.{requests_of, joined, is_closed, Serves, Breaks}
use Rattle.gql_http.specs.Limits.{limit_in}

-- the requests so far were made, and these bytes are left
pub record Served (s : State) (whole rest : List ℕ) (u : State) (out : List ℕ) : Type 0 where
  pub made : List Placed
  pub answers : List (List ℕ)
  pub offset : ℕ
  pub splits : (rs : List Placed) (left : List ℕ) → Splits (limit_in s) offset rest rs left → Splits (limit_in s) 0 whole (made ++ rs) left
  pub run : Run s (requests_of made) answers u
  pub written : out ≡ joined answers
  pub stays : is_closed (requests_of made) ≡ false

pub served_init : (s : State) (whole rest : List ℕ) (out : List ℕ) → rest ≡ whole → out ≡ [] → Served s whole rest s out
served_init s whole rest out same empty = record {
  made = [];
  answers = [];
  offset = 0;
  splits = λ rs left h. subst (λ bytes. Splits (limit_in s) 0 bytes rs left) same h;
  run = done;
  written = empty;
  stays = refl;
}

run_snoc : (s t u : State) (rs : List Req) (r : Req) (answers : List (List ℕ)) (bytes : List ℕ) → Run s rs answers t → Step t r bytes u → Run s (rs ++ r ∷ []) (answers ++ bytes ∷ []) u
run_snoc s _ u _ r _ bytes done step = more step done
run_snoc s t u _ r _ bytes (more first rest) step = more first (run_snoc _ t u _ r _ bytes rest step)

joined_snoc : (answers : List (List ℕ)) (bytes : List ℕ) → joined (answers ++ bytes ∷ []) ≡ joined answers ++ bytes
joined_snoc answers bytes = grind (arith, common_steps)

requests_snoc : (ps : List Placed) (p : Placed) → requests_of (ps ++ p ∷ []) ≡ requests_of ps ++ p.request ∷ []
requests_snoc [] p = refl
requests_snoc (q ∷ ps) p = ap (λ rs. q.request ∷ rs) (requests_snoc ps p)

closed_by : (b : Bool) (rs : List Req) (r : Req) → cond b true (is_closed rs) ≡ false → (is_closed rs ≡ false → is_closed (rs ++ r ∷ []) ≡ closes r) → cond b true (is_closed (rs ++ r ∷ [])) ≡ closes r
closed_by true rs r h go = cc
closed_by false rs r h go = go h

closed_one : (b : Bool) → cond b true false ≡ b
closed_one true = refl
closed_one false = refl

closed_snoc : (rs : List Req) (r : Req) → is_closed rs ≡ false → is_closed (rs ++ r ∷ []) ≡ closes r
closed_snoc [] r h = closed_one (closes r)
closed_snoc (q ∷ rs) r h = closed_by (closes q) rs r h (closed_snoc rs r)

abbrev at_end_of : ℕ → List ℕ → Req → Placed
at_end_of offset front r = record { request = r; end = offset + length front }

run_made : (s u v : State) (made : List Placed) (p : Placed) (answers : List (List ℕ)) (bytes : List ℕ) → Run s (requests_of made) answers u → Step u p.request bytes v
    → Run s (requests_of (made ++ p ∷ [])) (answers ++ bytes ∷ []) v
run_made s u v made p answers bytes run step = subst (λ rs. Run s rs (answers ++ bytes ∷ []) v) (sym (requests_snoc made p)) (run_snoc s u v (requests_of made) p.request answers bytes run step)

written_made : (out more_out bytes : List ℕ) (answers : List (List ℕ)) → out ≡ joined answers → more_out ≡ out ++ bytes → more_out ≡ joined (answers ++ bytes ∷ [])
written_made out more_out bytes answers before after = after ∙ ap (λ xs. xs ++ bytes) before ∙ sym (joined_snoc answers bytes)

closed_made : (made : List Placed) (p : Placed) → is_closed (requests_of made) ≡ false → is_closed (requests_of (made ++ p ∷ [])) ≡ closes p.request
closed_made made p h = ap is_closed (requests_snoc made p) ∙ closed_snoc (requests_of made) p.request h

-- one more request was made, and the connection stays open
pub served_next : {s u v : State} {whole rest out more_out : List ℕ} → Served s whole rest u out → (front middle : List ℕ) (r : Req) (bytes : List ℕ) → IsRequest (limit_in s) front r → closes r ≡ false
    → front ++ middle ≡ rest → Step u r bytes v → more_out ≡ out ++ bytes → Served s whole middle v more_out
served_next {s} {u} {v} {whole} {rest} {out} {more_out} h front middle r bytes request stays cut step written =
    let p = at_end_of h.offset front r in record {
      made = h.made ++ p ∷ [];
      answers = h.answers ++ bytes ∷ [];
      offset = h.offset + length front;
      splits = λ rs left after_it. subst (λ ps. Splits (limit_in s) 0 whole ps left) (sym (append_assoc h.made (p ∷ []) rs)) (h.splits (p ∷ rs) left (next request stays cut after_it));
      run = run_made s u v h.made p h.answers bytes h.run step;
      written = written_made out more_out bytes h.answers h.written written;
      stays = closed_made h.made p h.stays ∙ stays;
    }

held_open : (closed : Bool) (bytes : List ℕ) → closed ≡ false → Some bytes ≡ cond closed None (Some bytes)
held_open true bytes h = absurd (let e : true ≡ false = h in cc)
held_open false bytes h = refl

held_closed : (closed : Bool) (bytes : List ℕ) → closed ≡ true → None ≡ cond closed None (Some bytes)
held_closed true bytes h = refl
held_closed false bytes h = absurd (let e : false ≡ true = h in cc)

-- no request is left: the rest is held
pub serves_open : {s u : State} {whole rest out : List ℕ} → Served s whole rest u out → IsUnfinished (limit_in s) rest → (left : List ℕ) → left ≡ skip_blank rest → Serves s whole out u (Some left)
serves_open {s} {u} {whole} {rest} {out} h unended left is = record {
  requests = h.made;
  rest = left;
  answers = h.answers;
  splits = subst (λ ps. Splits (limit_in s) 0 whole ps left) (append-nil h.made) (h.splits [] left (unfinished unended is));
  run = h.run;
  written = h.written;
  left = held_open (is_closed (requests_of h.made)) left h.stays;
}

-- a request closes the connection
pub serves_closed : {s u v : State} {whole rest out more_out : List ℕ} → Served s whole rest u out → (front middle : List ℕ) (r : Req) (bytes : List ℕ) → IsRequest (limit_in s) front r → closes r ≡ true
    → front ++ middle ≡ rest → Step u r bytes v → more_out ≡ out ++ bytes → Serves s whole more_out v None
serves_closed {s} {u} {v} {whole} {rest} {out} {more_out} h front middle r bytes request closing cut step written =
    let p = at_end_of h.offset front r in record {
      requests = h.made ++ p ∷ [];
      rest = [];
      answers = h.answers ++ bytes ∷ [];
      splits = h.splits (p ∷ []) [] (last middle request closing cut);
      run = run_made s u v h.made p h.answers bytes h.run step;
      written = written_made out more_out bytes h.answers h.written written;
      left = held_closed (is_closed (requests_of (h.made ++ p ∷ []))) [] (closed_made h.made p h.stays ∙ closing);
    }

-- the requests that were made are the first of all
front_made : (made rs : List Placed) → take (length made) (requests_of (made ++ rs)) ≡ requests_of made
front_made [] rs = refl
front_made (p ∷ made) rs = ap (λ qs. p.request ∷ qs) (front_made made rs)

-- an allocation failed
pub served_breaks : SomeSplit → {s u : State} {whole rest out : List ℕ} → Served s whole rest u out → (made : ℕ) × Breaks s whole out u made
served_breaks some {s} {u} {whole} {rest} {out} h =
    let others = some (limit_in s) h.offset rest in (
      length h.made,
      record {
        requests = h.made ++ others.0;
        rest = others.1;
        answers = h.answers;
        splits = h.splits others.0 others.1 others.2;
        run = subst (λ rs. Run s rs h.answers u) (sym (front_made h.made others.0)) h.run;
        written = h.written;
      },
    )

-- the bytes up to the end of a request, and those after it
pub cut_at : (held piece : List ℕ) (at count : ℕ) → (held ++ take count (drop at piece)) ++ drop (at + count) piece ≡ held ++ drop at piece
cut_at held piece at count =
    append_assoc held (take count (drop at piece)) (drop (at + count) piece)
    ∙ ap (λ xs. held ++ (take count (drop at piece) ++ xs)) (sym (drop-drop count at piece))
    ∙ ap (λ xs. held ++ xs) (take-append-drop count (drop at piece))

pub within_more : (piece : List ℕ) (at count : ℕ) → at ≤ length piece → count ≤ length (drop at piece) → at + count ≤ length piece
within_more piece at count within fits = omega (arith, length-drop at piece)

pub on_error : {A E : Type 0} (r : Result A E) (P : Type 0) → P → OnErr r P
on_error (Ok a) P p = tt
on_error (Err e) P p = p

-- an allocation failed at a step, which then changed nothing
pub kept_breaks : SomeSplit → {s u v : State} {whole rest out more_out : List ℕ} → Served s whole rest u out → v ≡ u → more_out ≡ out → (made : ℕ) × Breaks s whole more_out v made
kept_breaks some {s} {u} {v} {whole} {rest} {out} {more_out} h same_state same_out =
    subst (λ w. (made : ℕ) × Breaks s whole more_out w made) (sym same_state) (subst (λ xs. (made : ℕ) × Breaks s whole xs u made) (sym same_out) (served_breaks some h))
