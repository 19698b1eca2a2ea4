-- Bytes that are characters by themselves and end no line: the place after them.
use Rattle.std.proofs.Common.{◌≡◌, ℕ, zero, suc, ◌+◌, ◌<◌, ◌≤◌, List, ◌∷◌, length, get_or, take, drop, refl, sym, ap, ◌∙◌, arith, Bool, true, length-take, length-drop}
use Rattle.std.specs.Prelude.{reverse}
use Rattle.std.specs.List.{prefix_len}
use Rattle.std.proofs.lemmas.Bool.Decides.{nat_tests}
use Rattle.std.proofs.lemmas.List.{get_or-drop}
use Rattle.std.proofs.lemmas.List.Sums.{prefix_len-le-length, prefix_len_passes}
use Rattle.gql_text.specs.Place.{place_after, line_behind, column_behind}
use Rattle.gql_text.specs.Parts.{is_plain}
use Rattle.gql_text.specs.declared.place.Place.{Place}
use Rattle.gql_text.proofs.Places.{reverse_more}

line_step : (b : ℕ) (bs : List ℕ) → is_plain b ≡ true → line_behind (b ∷ bs) ≡ line_behind bs
line_step b bs h = grind (arith, nat_tests)

column_step : (b : ℕ) (bs : List ℕ) → is_plain b ≡ true → column_behind (b ∷ bs) ≡ 1 + column_behind bs
column_step b bs h = grind (arith, nat_tests)

-- the n bytes from o on are plain
record PlainAt (s : List ℕ) (o n : ℕ) : Type 0 where
  pub within : o + n ≤ length s
  pub each : (i : ℕ) → i < n → is_plain (get_or s (o + i) 0) ≡ true

plain_at : (s : List ℕ) (o n : ℕ) → o ≤ length s → n ≤ prefix_len is_plain (drop o s) → PlainAt s o n
plain_at s o n h k = record {
  within = omega (arith, prefix_len-le-length is_plain (drop o s), length-drop o s);
  each = λ i less. rw (← get_or-drop o s i 0) (prefix_len_passes is_plain (drop o s) i 0 (omega arith));
}

less_plain : (s : List ℕ) (o n : ℕ) → PlainAt s o (suc n) → PlainAt s o n
less_plain s o n h = record { within = omega (arith, h.within); each = λ i less. h.each i (omega arith) }

line_plain : (s : List ℕ) (o n : ℕ) → PlainAt s o n → line_behind (reverse (take (o + n) s)) ≡ line_behind (reverse (take o s))
line_plain s o zero h = let e : o + 0 ≡ o = omega arith in ap (λ k. line_behind (reverse (take k s))) e
line_plain s o (suc n) h =
    let e : o + suc n ≡ o + n + 1 = omega arith in
    ap (λ k. line_behind (reverse (take k s))) e
    ∙ ap line_behind (reverse_more s (o + n) (omega (arith, h.within)))
    ∙ line_step (get_or s (o + n) 0) _ (h.each n (omega arith))
    ∙ line_plain s o n (less_plain s o n h)

column_plain : (s : List ℕ) (o n : ℕ) → PlainAt s o n → column_behind (reverse (take (o + n) s)) ≡ column_behind (reverse (take o s)) + n
column_plain s o zero h = let e : o + 0 ≡ o = omega arith in rw e (omega arith)
column_plain s o (suc n) h =
    let e : o + suc n ≡ o + n + 1 = omega arith in
    let more = ap column_behind (reverse_more s (o + n) (omega (arith, h.within))) in
    let step = column_step (get_or s (o + n) 0) (reverse (take (o + n) s)) (h.each n (omega arith)) in
    rw e (omega (arith, more, step, column_plain s o n (less_plain s o n h)))

places : (l c o : ℕ) (p : Place) → l ≡ p.line → c ≡ p.column → o ≡ p.offset → record { line = l; column = c; offset = o } ≡ p
places l c o p h k m = rw (h, k, m) refl

-- a place lies in its text
pub place_within : (s : List ℕ) (p : Place) → p ≡ place_after (take p.offset s) → p.offset ≤ length s
place_within s p e = omega (arith, ap (λ (q : Place). q.offset) e, length-take p.offset s)

pub run_within : (f : ℕ → Bool) (s : List ℕ) (p : Place) (n : ℕ) → p ≡ place_after (take p.offset s) → n ≤ prefix_len f (drop p.offset s) → p.offset + n ≤ length s
run_within f s p n e k = omega (arith, place_within s p e, prefix_len-le-length f (drop p.offset s), length-drop p.offset s)

pub place_plain : (s : List ℕ) (p : Place) (n : ℕ) → p ≡ place_after (take p.offset s) → n ≤ prefix_len is_plain (drop p.offset s)
    → record { line = p.line; column = p.column + n; offset = p.offset + n } ≡ place_after (take (p.offset + n) s)
place_plain s p n e k =
    let o : ℕ = p.offset in
    let at = plain_at s o n (place_within s p e) k in
    places _ _ _ _
    (ap (λ (q : Place). q.line) e ∙ sym (line_plain s o n at))
    (ap (λ (q : Place). q.column + n) e ∙ sym (column_plain s o n at))
    (omega (arith, length-take (o + n) s, at.within))
