-- More bytes of a head or a body.
use Rattle.std.proofs.Common.{◌≡◌, ◌≢◌, ◌⊎◌, inl, inr, ℕ, zero, suc, ◌+◌, ◌-◌, ◌≤◌, ◌<◌, List, [], ◌∷◌, ◌++◌, length, take, drop, refl, sym, ap, ◌∙◌, subst, arith, Bool, true, false, length-take, length-drop, length-append, eqb-true, append_assoc, take-add, get_or, Option, Some, None}
use Rattle.std.specs.Prelude.{◌==◌, ◌&&◌, nat_eq}
use Rattle.std.specs.List.{ends_with}
use Rattle.std.specs.Cmp.Lexicographic.{same_text}
use Rattle.std.proofs.lemmas.List.{take-take, take_all, take-append-drop, get_or-drop, get_or-take, get_or-append-add}
use Rattle.std.proofs.Math.Seq.{take-append_seam}
use Rattle.std.proofs.lemmas.Bool.Decides.{leb_tells}
use Rattle.httparse.specs.Spans.{span_bytes}
use Rattle.gql_wire.specs.Head.{HasOutcome, expects}
use Rattle.gql_wire.specs.declared.stream.Pending.{Pending}
use Rattle.gql_wire.specs.Stream.{Req, request, IsRequest, behind_blank, whole, begins_blank, skip_blank, IsOpen, IsHead, head_end, head_limit}
use Rattle.gql_wire.specs.Held.{IsGrown, IsHeld, IsBodyOpen, IsBodyDone, AreWithin}

pub both : (a b : Bool) → (a && b) ≡ true → (a ≡ true) × (b ≡ true)
both true true e = (refl, refl)
both true false e = absurd (cc)
both false b e = absurd (cc)

pub true_or_false : (b : Bool) → (b ≡ true) ⊎ (b ≡ false)
true_or_false true = inl refl
true_or_false false = inr refl

-- a head has the four bytes of its end
pub head_full : (bytes : List ℕ) → IsHead bytes → 4 ≤ length bytes
head_full bytes h = omega (arith, ap length (same_text head_end (drop (length bytes - 4) bytes) (sym h.ended)), length-drop (length bytes - 4) bytes)

pub skip_same : (bs : List ℕ) → begins_blank bs ≡ false → skip_blank bs ≡ bs
skip_same [] e = refl
skip_same (a ∷ []) e = refl
skip_same (a ∷ b ∷ bs) e = rw e

-- the byte before the end of a head is a line feed
last_feed : (bytes : List ℕ) → ends_with nat_eq bytes head_end ≡ true → get_or bytes (length bytes - 1) 0 ≡ 10
last_feed bytes e =
    let same : head_end ≡ drop (length bytes - 4) bytes = same_text head_end (drop (length bytes - 4) bytes) (sym e) in
    let full : 4 ≤ length bytes = omega (arith, ap length same, length-drop (length bytes - 4) bytes) in
    let place : length bytes - 4 + 3 ≡ length bytes - 1 = omega arith in
    sym (ap (λ (n : ℕ). get_or bytes n 0) place) ∙ sym (get_or-drop (length bytes - 4) bytes 3 0) ∙ sym (ap (λ (z : List ℕ). get_or z 3 0) same)

not_ended : (bytes : List ℕ) → get_or bytes (length bytes - 1) 0 ≢ 10 → ends_with nat_eq bytes head_end ≡ false
not_ended bytes other = elim (true_or_false (ends_with nat_eq bytes head_end)) [
  | inl t ↦ absurd (other (last_feed bytes t))
  | inr f ↦ f
]

-- no head ends before the end of the line
pub early : (n : ℕ) (bs : List ℕ) → IsGrown n bs → (k : ℕ) → k < length bs → ends_with nat_eq (take k bs) head_end ≡ false
early n bs g k h = elim (leb_tells k n) [
  | inl (w, below) ↦ rw (take-take k n bs below) at (g.held.unended k (omega (arith, length-take n bs, g.some)))
  | inr (w, above) ↦
      let len : length (take k bs) ≡ k = omega (arith, length-take k bs) in
      let read : get_or (take k bs) (k - 1) 0 ≡ get_or bs (k - 1) 0 = get_or-take k bs (k - 1) 0 (omega arith) in
      not_ended (take k bs) (λ e. g.line (k - 1) (omega arith) (omega arith) (sym read ∙ rw len at e))
]

-- with the bytes the head is still open
pub still_open : (n : ℕ) (bs : List ℕ) → IsGrown n bs → begins_blank bs ≡ false → ends_with nat_eq bs head_end ≡ false → IsOpen bs
still_open n bs g begun ended = record {
  begun = begun;
  unended = λ k h. elim (leb_tells (suc k) (length bs)) [
    | inl (w, below) ↦ early n bs g k (omega arith)
    | inr (w, above) ↦ let e : take k bs ≡ bs = take_all k bs (omega arith) in rw e ended
  ];
}

-- with the bytes the head is whole
pub head_ended : (n : ℕ) (bs : List ℕ) → IsGrown n bs → begins_blank bs ≡ false → ends_with nat_eq bs head_end ≡ true → IsHead bs
head_ended n bs g begun ended = record { begun = begun; ended = ended; before = early n bs g; short = g.within }

pub begun_on : (n : ℕ) (bs : List ℕ) → 2 ≤ n → begins_blank (take n bs) ≡ false → begins_blank bs ≡ false
begun_on (suc (suc n)) [] h e = e
begun_on (suc (suc n)) (a ∷ []) h e = refl
begun_on (suc (suc n)) (a ∷ b ∷ bs) h e = e
begun_on zero bs h e = absurd (omega arith)
begun_on (suc zero) bs h e = absurd (omega arith)

pub only_blank : (n : ℕ) (bs : List ℕ) → IsGrown n bs → begins_blank bs ≡ true → skip_blank bs ≡ []
only_blank n [] g e = refl
only_blank n (a ∷ []) g e = absurd (cc)
only_blank n (a ∷ b ∷ []) g e = rw e
only_blank n (a ∷ b ∷ c ∷ cs) g e = elim (leb_tells 2 n) [
  | inl w ↦ let begun : begins_blank (a ∷ b ∷ c ∷ cs) ≡ false = begun_on n (a ∷ b ∷ c ∷ cs) w.1 g.held.begun in absurd (let bad : true ≡ false = sym e ∙ begun in cc)
  | inr w ↦ absurd (g.line 1 (omega (arith, w.1)) (omega arith) (eqb-true b 10 (both (a == 13) (b == 10) e).1))
]

pub done : {limit : ℕ} → (bs : List ℕ) (p : Pending) → p.head ≡ length bs → p.length ≡ 0 → IsHead bs → HasOutcome limit bs (expects (span_bytes bs p.method) (span_bytes bs p.target) p.length p.closing)
    → AreWithin limit p → IsBodyDone limit bs p
done bs p n none h s w =
    let e : take p.head bs ≡ bs = take_all p.head bs (omega arith) in
    record { head = rw e h; outcome_is = rw e s; spans = w; filled = omega arith }

pub body_open : {limit : ℕ} → (bs : List ℕ) (p : Pending) → p.head ≡ length bs → p.length ≢ 0 → IsHead bs → HasOutcome limit bs (expects (span_bytes bs p.method) (span_bytes bs p.target) p.length p.closing)
    → AreWithin limit p → IsBodyOpen limit bs p
body_open bs p n some h s w =
    let e : take p.head bs ≡ bs = take_all p.head bs (omega arith) in
    record { within = omega arith; head = rw e h; outcome_is = rw e s; spans = w; unfilled = omega arith }

pub done_request : {limit : ℕ} → (bs m t b : List ℕ) (p : Pending) → IsBodyDone limit bs p → m ≡ span_bytes (take p.head bs) p.method → t ≡ span_bytes (take p.head bs) p.target → b ≡ drop p.head bs
    → IsRequest limit bs (request m t b p.closing)
done_request {limit} bs m t b p d em et eb =
    let n : p.length ≡ length (drop p.head bs) = omega (arith, d.filled, length-drop p.head bs) in
    let outcome_is = rw n at d.outcome_is in
    rw (em, et, eb) (subst (λ (xs : List ℕ). IsRequest limit xs (request (span_bytes (take p.head bs) p.method) (span_bytes (take p.head bs) p.target) (drop p.head bs) p.closing)) (take-append-drop p.head bs) (whole d.head outcome_is))

pub skip_append : (xs ys : List ℕ) → skip_blank (skip_blank xs ++ ys) ≡ skip_blank (xs ++ ys)
skip_append [] ys = refl
skip_append (a ∷ []) ys = refl
skip_append (a ∷ b ∷ xs) ys = elim (true_or_false (a == 13 && b == 10)) [
  | inl e ↦ rw e (skip_append xs ys)
  | inr e ↦ rw e (rw e refl)
]

pub request_after_blanks : {limit : ℕ} → (xs ys : List ℕ) (r : Req) → IsRequest limit (skip_blank xs ++ ys) r → IsRequest limit (xs ++ ys) r
request_after_blanks [] ys r h = h
request_after_blanks (a ∷ []) ys r h = h
request_after_blanks (a ∷ b ∷ xs) ys r h = elim (true_or_false (a == 13 && b == 10)) [
  | inl e ↦ let p = both (a == 13) (b == 10) e in
      let x : a ≡ 13 = eqb-true a 13 p.0 in let y : b ≡ 10 = eqb-true b 10 p.1 in
      rw (x, y) (behind_blank (request_after_blanks xs ys r (rw e at h)))
  | inr e ↦ rw e at h
]

pub held_skips : (limit : ℕ) → (bs : List ℕ) (p : Option Pending) → IsHeld limit bs p → skip_blank bs ≡ bs
held_skips limit bs None h = skip_same bs h.0.begun
held_skips limit bs (Some p) h = skip_same bs (begun_on p.head bs (omega (arith, head_full (take p.head bs) h.head, length-take p.head bs)) h.head.begun)

-- more bytes of a piece, after skipped ones
pub more_skipped : (old now new piece : List ℕ) (i n : ℕ) → now ≡ skip_blank (old ++ take i piece) → new ≡ skip_blank (now ++ take n (drop i piece))
    → new ≡ skip_blank (old ++ take (i + n) piece)
more_skipped old now new piece i n e f =
    f ∙ ap (λ (xs : List ℕ). skip_blank (xs ++ take n (drop i piece))) e ∙ skip_append (old ++ take i piece) (take n (drop i piece))
    ∙ ap skip_blank (append_assoc old (take i piece) (take n (drop i piece)) ∙ ap (λ (xs : List ℕ). old ++ xs) (sym (take-add i n piece)))

pub more_requested : {limit : ℕ} → (old now piece : List ℕ) (i n : ℕ) (r : Req) → now ≡ skip_blank (old ++ take i piece) → IsRequest limit (now ++ take n (drop i piece)) r
    → IsRequest limit (old ++ take (i + n) piece) r
more_requested {limit} old now piece i n r e f =
    let g : IsRequest limit ((old ++ take i piece) ++ take n (drop i piece)) r = request_after_blanks (old ++ take i piece) (take n (drop i piece)) r (rw e at f) in
    let same : (old ++ take i piece) ++ take n (drop i piece) ≡ old ++ take (i + n) piece =
    append_assoc old (take i piece) (take n (drop i piece)) ∙ ap (λ (xs : List ℕ). old ++ xs) (sym (take-add i n piece)) in
    rw same at g

-- a part of a line after an unfinished head
pub is_grown : (old piece : List ℕ) (n : ℕ) → IsOpen old → 0 < n → n ≤ length piece → length old + n ≤ head_limit → ((k : ℕ) → k + 1 < n → get_or piece k 0 ≢ 10)
    → IsGrown (length old) (old ++ take n piece)
is_grown old piece n o some within short line = record {
  held = rw (take-append_seam old (take n piece)) o;
  some = omega (arith, length-append old (take n piece), length-take n piece);
  line = λ k h less.
      let place : k ≡ length old + (k - length old) = omega arith in
      let early : k - length old + 1 < n = omega (arith, length-append old (take n piece), length-take n piece) in
      let read : get_or (old ++ take n piece) k 0 ≡ get_or piece (k - length old) 0 =
      ap (λ (j : ℕ). get_or (old ++ take n piece) j 0) place ∙ get_or-append-add old (take n piece) (k - length old) 0 ∙ get_or-take n piece (k - length old) 0 (omega arith) in
      λ e. line (k - length old) early (sym read ∙ e);
  within = omega (arith, length-append old (take n piece), length-take n piece);
}
