-- The list of a stream's requests.
use Rattle.std.proofs.Common.{take, ◌≡◌, inl, inr, ℕ, suc, ◌+◌, ◌-◌, ◌≤◌, List, [], ◌∷◌, ◌++◌, length, drop, refl, sym, ap, ◌∙◌, subst, arith, true, false, append_assoc, length-append, eqb-true, append-nil}
use Rattle.std.specs.Prelude.{◌==◌, ◌&&◌}
use Rattle.std.proofs.lemmas.List.{take-append-drop}
use Rattle.std.specs.List.{flat_map}
use Rattle.gql_wire.specs.Laws.{Feeds, end, goes, closed}
use Rattle.gql_wire.specs.Stream.{Req, IsRequest, behind_blank, long, stops, whole, closes, skip_blank, IsUnfinished, Placed, Splits, unfinished, last, next, StaysOpen}
use Rattle.gql_wire.proofs.Streams.{head_full, true_or_false, both}
use Rattle.gql_wire.proofs.Unique.{one_reading_lem, not_blank, cut_left, nothing_unfinished}

placed_same : {r q : Req} {m n : ℕ} → r ≡ q → m ≡ n → ◌≡◌ {A = Placed} (record { request = r; end = m }) (record { request = q; end = n })
placed_same {r} {q} {m} {n} e f = cc

cons_same : {p q : Placed} {ps qs : List Placed} → p ≡ q → ps ≡ qs → p ∷ ps ≡ q ∷ qs
cons_same {p} {q} {ps} {qs} e f = cc

pub one_split_lem : {limit : ℕ} → (at : ℕ) (bytes : List ℕ) (rs qs : List Placed) (r q : List ℕ) → Splits limit at bytes rs r → Splits limit at bytes qs q → (rs ≡ qs) × (r ≡ q)
one_split_lem at bytes _ _ r q (unfinished u e) (unfinished v f) = (refl, e ∙ sym f)
one_split_lem at bytes _ _ r _ (unfinished u e) (last {front = b} m {r = x} g c f) = absurd (u b m x g f)
one_split_lem at bytes _ _ r q (unfinished u e) (next {front = b} {more = m} {r = x} g c f s) = absurd (u b m x g f)
one_split_lem at bytes _ _ _ q (last {front = a} m {r = x} g c f) (unfinished u e) = absurd (u a m x g f)
one_split_lem at bytes _ _ r q (next {front = a} {more = m} {r = x} g c f s) (unfinished u e) = absurd (u a m x g f)
one_split_lem at bytes _ _ _ _ (last {front = a} m {r = x} g c e) (last {front = b} n {r = y} h d f) =
    let one = one_reading_lem a b m n x y g h (e ∙ sym f) in
    (cons_same (placed_same one.1 (ap (λ (z : List ℕ). at + length z) one.0)) refl, refl)
one_split_lem at bytes _ _ _ q (last {front = a} m {r = x} g c e) (next {front = b} {more = n} {r = y} h d f s) =
    let one = one_reading_lem a b m n x y g h (e ∙ sym f) in
    let clash : true ≡ false = sym c ∙ ap closes one.1 ∙ d in absurd (cc)
one_split_lem at bytes _ _ r _ (next {front = a} {more = m} {r = x} g c e s) (last {front = b} n {r = y} h d f) =
    let one = one_reading_lem a b m n x y g h (e ∙ sym f) in
    let clash : false ≡ true = sym c ∙ ap closes one.1 ∙ d in absurd (cc)
one_split_lem {limit} at bytes _ _ r q (next {front = a} {more = m} {r = x} {rs = xs} g c e s) (next {front = b} {more = n} {r = y} {rs = ys} h d f t) =
    let one = one_reading_lem a b m n x y g h (e ∙ sym f) in
    let same : m ≡ n = cut_left a m n (e ∙ sym f ∙ ap (λ (z : List ℕ). z ++ n) (sym one.0)) in
    let t' : Splits limit (at + length a) m ys q = rw (one.0, same) t in
    let rest = one_split_lem (at + length a) m xs ys r q s t' in
    (cons_same (placed_same one.1 (ap (λ (z : List ℕ). at + length z) one.0)) rest.0, rest.1)

-- a request at the front of bytes that begin with CR LF is one after it
after_pair : {limit : ℕ} → (a front more : List ℕ) (r : Req) → IsRequest limit front r → front ++ more ≡ 13 ∷ 10 ∷ a → (f : List ℕ) × IsRequest limit f r × (f ++ more ≡ a)
after_pair a _ more r (behind_blank {bytes = f} g) e = (f, g, ap (λ (z : List ℕ). drop 2 z) e)
after_pair a front more r (long o n) e = absurd (not_blank front a more [] o.begun (omega arith) (e ∙ ap (λ (z : List ℕ). 13 ∷ 10 ∷ z) (sym (append-nil a))))
after_pair a front more r (stops h s) e = absurd (not_blank front a more [] h.begun (omega (arith, head_full front h)) (e ∙ ap (λ (z : List ℕ). 13 ∷ 10 ∷ z) (sym (append-nil a))))
after_pair a _ more r (whole {head = h} {body = b} ih s) e =
    absurd (not_blank h a (b ++ more) [] ih.begun (omega (arith, head_full h ih)) (sym (append_assoc h b more) ∙ e ∙ ap (λ (z : List ℕ). 13 ∷ 10 ∷ z) (sym (append-nil a))))

-- CR LF before unfinished bytes leaves them unfinished
pub blank_unfinished : {limit : ℕ} → (bytes : List ℕ) → IsUnfinished limit bytes → IsUnfinished limit (13 ∷ 10 ∷ bytes)
blank_unfinished bytes u front more r g e = let had = after_pair bytes front more r g e in u had.0 more r had.1 had.2

two_more : (at n : ℕ) → at + 2 + n ≡ at + suc (suc n)
two_more at n = omega arith

-- CR LF before the bytes gives the same requests, two bytes on
blank_before : {limit : ℕ} → (at : ℕ) (bytes : List ℕ) (rs : List Placed) (r : List ℕ) → Splits limit (at + 2) bytes rs r → Splits limit at (13 ∷ 10 ∷ bytes) rs r
blank_before at bytes _ r (unfinished u e) = unfinished (blank_unfinished bytes u) e
blank_before {limit} at bytes _ _ (last {front = a} m {r = x} g c e) =
    let end : ◌≡◌ {A = Placed} (record { request = x; end = at + length (13 ∷ 10 ∷ a) }) (record { request = x; end = at + 2 + length a }) = placed_same refl (sym (two_more at (length a))) in
    subst (λ (p : Placed). Splits limit at (13 ∷ 10 ∷ bytes) (p ∷ []) []) end (last m (behind_blank g) c (ap (λ (z : List ℕ). 13 ∷ 10 ∷ z) e))
blank_before {limit} at bytes _ r (next {front = a} {more = m} {r = x} {rs = xs} g c e s) =
    let end : ◌≡◌ {A = Placed} (record { request = x; end = at + length (13 ∷ 10 ∷ a) }) (record { request = x; end = at + 2 + length a }) = placed_same refl (sym (two_more at (length a))) in
    let s' : Splits limit (at + length (13 ∷ 10 ∷ a)) m xs r = subst (λ (n : ℕ). Splits limit n m xs r) (two_more at (length a)) s in
    subst (λ (p : Placed). Splits limit at (13 ∷ 10 ∷ bytes) (p ∷ xs) r) end (next (behind_blank g) c (ap (λ (z : List ℕ). 13 ∷ 10 ∷ z) e) s')

skip_short : (a : List ℕ) → length (skip_blank a) ≤ length a
skip_short [] = omega arith
skip_short (x ∷ []) = omega arith
skip_short (x ∷ y ∷ a) = elim (true_or_false (x == 13 && y == 10)) [
  | inl e ↦ rw e (omega (arith, skip_short a))
  | inr e ↦ rw e (omega arith)
]

-- pairs CR LF before the bytes give the same requests
skipped_before : {limit : ℕ} → (at : ℕ) (a b : List ℕ) (rs : List Placed) (r : List ℕ) → Splits limit (at + (length a - length (skip_blank a))) (skip_blank a ++ b) rs r → Splits limit at (a ++ b) rs r
skipped_before {limit} at [] b rs r s = subst (λ (n : ℕ). Splits limit n b rs r) (omega arith) s
skipped_before {limit} at (x ∷ []) b rs r s = subst (λ (n : ℕ). Splits limit n (x ∷ b) rs r) (omega arith) s
skipped_before {limit} at (x ∷ y ∷ a) b rs r s = elim (true_or_false (x == 13 && y == 10)) [
  | inl e ↦ let p = both (x == 13) (y == 10) e in
      let f : x ≡ 13 = eqb-true x 13 p.0 in let g : y ≡ 10 = eqb-true y 10 p.1 in
      let s' = rw e at s in
      let n : at + (length (x ∷ y ∷ a) - length (skip_blank a)) ≡ at + 2 + (length a - length (skip_blank a)) = omega (arith, skip_short a) in
      rw (f, g) (blank_before at (a ++ b) rs r (skipped_before (at + 2) a b rs r (subst (λ (n : ℕ). Splits limit n (skip_blank a ++ b) rs r) n s')))
  | inr e ↦ let s' = rw e at s in
      let n : at + (length (x ∷ y ∷ a) - length (x ∷ y ∷ a)) ≡ at = omega arith in
      subst (λ (n : ℕ). Splits limit n (x ∷ y ∷ (a ++ b)) rs r) n s'
]

-- the rest is no longer than the bytes
pub rest_short : {limit : ℕ} → (at : ℕ) (bytes : List ℕ) (rs : List Placed) (r : List ℕ) → Splits limit at bytes rs r → length r ≤ length bytes
rest_short at bytes _ r (unfinished u e) = omega (arith, skip_short bytes, ap length e)
rest_short at bytes _ _ (last m g c e) = omega arith
rest_short at bytes _ r (next {front = a} {more = m} {rs = xs} g c e s) = omega (arith, rest_short (at + length a) m xs r s, ap length e, length-append a m)

pub feeding_lem : {limit : ℕ} → (at : ℕ) (a b : List ℕ) (rs qs : List Placed) (r q : List ℕ) → Splits limit at a rs r → StaysOpen rs
    → Splits limit (at + (length a - length r)) (r ++ b) qs q → Splits limit at (a ++ b) (rs ++ qs) q
feeding_lem {limit} at a b _ qs r q (unfinished u e) stays s = skipped_before at a b qs q (subst (λ (z : List ℕ). Splits limit (at + (length a - length z)) (z ++ b) qs q) e s)
feeding_lem at a b _ qs _ q (last m g c e) stays s = let clash : true ≡ false = sym c ∙ stays.0 in absurd (cc)
feeding_lem {limit} at a b _ qs r q (next {front = f} {more = m} {rs = xs} g c e t) stays s =
    let n : at + (length a - length r) ≡ at + length f + (length m - length r) = omega (arith, rest_short (at + length f) m xs r t, ap length e, length-append f m) in
    next g c (sym (append_assoc f m b) ∙ ap (λ (z : List ℕ). z ++ b) e)
    (feeding_lem (at + length f) m b xs qs r q t stays.1 (subst (λ (n : ℕ). Splits limit n (r ++ b) qs q) n s))

pub closed_lem : {limit : ℕ} → (at : ℕ) (a b : List ℕ) (rs : List Placed) (r : List ℕ) → Splits limit at a rs r → (StaysOpen rs → ⊥) → Splits limit at (a ++ b) rs r
closed_lem at a b _ r (unfinished u e) not = absurd (not (tt {0}))
closed_lem at a b _ _ (last {front = f} m g c e) not = last (m ++ b) g c (sym (append_assoc f m b) ∙ ap (λ (z : List ℕ). z ++ b) e)
closed_lem at a b _ r (next {front = f} {more = m} {rs = xs} g c e t) not =
    next g c (sym (append_assoc f m b) ∙ ap (λ (z : List ℕ). z ++ b) e) (closed_lem (at + length f) m b xs r t (λ stays. not (c, stays)))

-- a request after dropped pairs is one with them
with_blanks : {limit : ℕ} → (a front more : List ℕ) (r : Req) → IsRequest limit front r → front ++ more ≡ skip_blank a → (f : List ℕ) × IsRequest limit f r × (f ++ more ≡ a)
with_blanks [] front more r g e = (front, g, e)
with_blanks (x ∷ []) front more r g e = (front, g, e)
with_blanks (x ∷ y ∷ a) front more r g e = elim (true_or_false (x == 13 && y == 10)) [
  | inl t ↦ let p = both (x == 13) (y == 10) t in
      let had = with_blanks a front more r g (rw t at e) in
      let first : 13 ≡ x = sym (eqb-true x 13 p.0) in let second : 10 ≡ y = sym (eqb-true y 10 p.1) in
      (13 ∷ 10 ∷ had.0, behind_blank had.1, rw had.2 (cc))
  | inr t ↦ (front, g, rw t at e)
]

skip_twice : (a : List ℕ) → skip_blank (skip_blank a) ≡ skip_blank a
skip_twice [] = refl
skip_twice (x ∷ []) = refl
skip_twice (x ∷ y ∷ a) = elim (true_or_false (x == 13 && y == 10)) [
  | inl e ↦ rw e (skip_twice a)
  | inr e ↦ rw e (rw e refl)
]

pub rest_unfinished : {limit : ℕ} → (at : ℕ) (bytes : List ℕ) (rs : List Placed) (r : List ℕ) → Splits limit at bytes rs r → IsUnfinished limit r × (skip_blank r ≡ r)
rest_unfinished at bytes _ r (unfinished u e) =
    (λ front more x g f. let had = with_blanks bytes front more x g (f ∙ e) in u had.0 more x had.1 had.2, ap skip_blank e ∙ skip_twice bytes ∙ sym e)
rest_unfinished at bytes _ _ (last m g c e) = (nothing_unfinished, refl)
rest_unfinished at bytes _ r (next {front = f} {more = m} {rs = xs} g c e t) = rest_unfinished (at + length f) m xs r t

-- a request with dropped pairs is one after them
without_blanks : {limit : ℕ} → (a front more : List ℕ) (r : Req) → IsRequest limit front r → front ++ more ≡ a → (f : List ℕ) × IsRequest limit f r × (f ++ more ≡ skip_blank a)
without_blanks [] front more r g e = (front, g, e)
without_blanks (x ∷ []) front more r g e = (front, g, e)
without_blanks (x ∷ y ∷ a) front more r g e = elim (true_or_false (x == 13 && y == 10)) [
  | inl t ↦ let p = both (x == 13) (y == 10) t in
      let first : x ≡ 13 = eqb-true x 13 p.0 in let second : y ≡ 10 = eqb-true y 10 p.1 in
      let pair : front ++ more ≡ 13 ∷ 10 ∷ a = cc in
      let had = after_pair a front more r g pair in
      rw t (without_blanks a had.0 more r had.1 had.2)
  | inr t ↦ rw t (front, g, e)
]

-- bytes are unfinished if the bytes after their dropped pairs are
pub unskipped : {limit : ℕ} → (a : List ℕ) → IsUnfinished limit (skip_blank a) → IsUnfinished limit a
unskipped a u front more r g e = let had = without_blanks a front more r g e in u had.0 more r had.1 had.2

feeds_split : {limit : ℕ} → (at : ℕ) (held : List ℕ) (pieces : List (List ℕ)) (rs : List Placed) (r : List ℕ) → IsUnfinished limit held → skip_blank held ≡ held → Feeds limit at held pieces rs r
    → Splits limit at (held ++ flat_map (λ piece. piece) pieces) rs r
feeds_split at held _ _ _ u e end = rw (append-nil held) (unfinished u (sym e))
feeds_split at held _ _ r u e (goes {piece} {rest} {pieces = more} {rs} {qs} s stays f) =
    let left = rest_unfinished at (held ++ piece) rs rest s in
    let after = feeds_split (at + (length (held ++ piece) - length rest)) rest more qs r left.0 left.1 f in
    rw (← (append_assoc held piece (flat_map (λ p. p) more))) (feeding_lem at (held ++ piece) (flat_map (λ p. p) more) rs qs rest r s stays after)
feeds_split at held _ _ r u e (closed {piece} {pieces = more} {rs} s not) =
    rw (← (append_assoc held piece (flat_map (λ p. p) more))) (closed_lem at (held ++ piece) (flat_map (λ p. p) more) rs r s not)

pub any_pieces_lem : {limit : ℕ} → (pieces : List (List ℕ)) (rs : List Placed) (r : List ℕ) → Feeds limit 0 [] pieces rs r → Splits limit 0 (flat_map (λ piece. piece) pieces) rs r
any_pieces_lem pieces rs r f = feeds_split 0 [] pieces rs r nothing_unfinished refl f

-- the bytes of a piece after those that were taken
taken : (held piece : List ℕ) (n : ℕ) → (held ++ take n piece) ++ drop n piece ≡ held ++ piece
taken held piece n = append_assoc held (take n piece) (drop n piece) ∙ ap (λ (z : List ℕ). held ++ z) (take-append-drop n piece)

pub taken_next : {limit : ℕ} → (at n : ℕ) (held piece : List ℕ) (r : Req) (rs : List Placed) (rest : List ℕ) → IsRequest limit (held ++ take n piece) r → closes r ≡ false
    → Splits limit (at + length (held ++ take n piece)) (drop n piece) rs rest → Splits limit at (held ++ piece) (record { request = r; end = at + length (held ++ take n piece) } ∷ rs) rest
taken_next at n held piece r rs rest g c s = next g c (taken held piece n) s

pub taken_last : {limit : ℕ} → (at n : ℕ) (held piece : List ℕ) (r : Req) → IsRequest limit (held ++ take n piece) r → closes r ≡ true
    → Splits limit at (held ++ piece) (record { request = r; end = at + length (held ++ take n piece) } ∷ []) []
taken_last at n held piece r g c = last (drop n piece) g c (taken held piece n)
