-- How often a byte occurs in a text, and the line after the text.
use Rattle.std.proofs.Common.{◌≡◌, ℕ, zero, suc, ◌+◌, ◌-◌, ◌<◌, ◌≤◌, List, ◌∷◌, length, get_or, take, drop, refl, sym, ap, ◌∙◌, arith, Bool, true, false}
use Rattle.std.specs.Prelude.{◌==◌, ◌&&◌, ◌||◌, not, reverse, slice_range, if◌then◌else◌}
use Rattle.std.specs.List.{count_by}
use Rattle.std.proofs.lemmas.List.{take_rest, take_all}
use Rattle.std.proofs.lemmas.List.Sums.{sum_by-append, sum_by-take-drop, count_by_more_yes, count_by_more_no, get_or-le-sum_by}
use Rattle.gql_text.specs.Place.{place_after, line_behind, column_behind, starts_with_return}
use Rattle.gql_text.proofs.Places.{reverse_more, return_before}
use Rattle.gql_text.proofs.Steps.{before_more, slice_is}

-- the bytes up to o, and n more
pub count_more : (p : ℕ → Bool) (s : List ℕ) (o n total more : ℕ) → total ≡ count_by p (take o s) → more ≡ count_by p (slice_range s o (o + n))
    → total + more ≡ count_by p (take (o + n) s)
count_more p s o n total more e h =
    let f : ℕ → ℕ = λ b. if p b then 1 else 0 in
    rw (e, h, slice_is s o n, ← before_more s o n) (sym (sum_by-append f (take o s) (take n (drop o s))))

-- the bytes up to o, and the others
pub count_rest : (p : ℕ → Bool) (s : List ℕ) (o total more : ℕ) → total ≡ count_by p (take o s) → more ≡ count_by p (take (length s - o) (drop o s))
    → total + more ≡ count_by p s
count_rest p s o total more e h =
    let f : ℕ → ℕ = λ b. if p b then 1 else 0 in
    let rest = rw take_rest at h in
    rw (e, rest) (sum_by-take-drop f s o)

-- a byte that doesn't occur in a text
none_occurs : (n : ℕ) (s : List ℕ) (i : ℕ) → count_by (λ b. b == n) s ≡ 0 → i < length s → (get_or s i 0 == n) ≡ false
none_occurs n s i e h =
    by_test (get_or s i 0 == n) (let le = get_or-le-sum_by (λ b. if b == n then 1 else 0) s i 0 h in omega (arith, le, e))
  where
    by_test : (t : Bool) → (if t then 1 else 0) ≤ 0 → t ≡ false
    by_test true k = absurd (omega arith)
    by_test false k = refl

line_more : (b : ℕ) (bs : List ℕ) → (b == 13) ≡ false → starts_with_return bs ≡ false → line_behind (b ∷ bs) ≡ (if b == 10 then 1 else 0) + line_behind bs
line_more b bs e h = rw (e, h) (by_test (b == 10))
  where
    by_test : (t : Bool) → (if false || (t && not false) then 1 else 0) + line_behind bs ≡ (if t then 1 else 0) + line_behind bs
    by_test true = refl
    by_test false = refl

count_step : (n : ℕ) (s : List ℕ) (i : ℕ) → i < length s → count_by (λ b. b == n) (take (i + 1) s) ≡ (if get_or s i 0 == n then 1 else 0) + count_by (λ b. b == n) (take i s)
count_step n s i h = by_test (get_or s i 0 == n) refl
  where
    by_test : (t : Bool) → (get_or s i 0 == n) ≡ t → count_by (λ b. b == n) (take (i + 1) s) ≡ (if t then 1 else 0) + count_by (λ b. b == n) (take i s)
    by_test true e = omega (arith, count_by_more_yes (λ b. b == n) s i 0 h e)
    by_test false e = omega (arith, count_by_more_no (λ b. b == n) s i 0 h e)

no_return_before : (s : List ℕ) (i : ℕ) → count_by (λ b. b == 13) s ≡ 0 → i < length s → starts_with_return (reverse (take i s)) ≡ false
no_return_before s zero e h = refl
no_return_before s (suc i) e h = return_before s (suc i) h ∙ grind (arith, none_occurs 13 s i e (omega arith))

-- where LF alone ends lines, the line is the number of them and one more
lines_counted : (s : List ℕ) (i : ℕ) → count_by (λ b. b == 13) s ≡ 0 → i ≤ length s → line_behind (reverse (take i s)) ≡ 1 + count_by (λ b. b == 10) (take i s)
lines_counted s zero e h = refl
lines_counted s (suc i) e h =
    let next : suc i ≡ i + 1 = omega arith in
    let less : i < length s = omega arith in
    let line = ap line_behind (reverse_more s i less) ∙ line_more (get_or s i 0) (reverse (take i s)) (none_occurs 13 s i e less) (no_return_before s i e less) in
    let count = count_step 10 s i less in
    rw next (omega (arith, line, count, lines_counted s i e (omega arith)))

pub last_line : (s : List ℕ) → count_by (λ b. b == 13) s ≡ 0 → line_behind (reverse s) ≡ 1 + count_by (λ b. b == 10) s
last_line s e = rw (take_all (length s) s (omega arith)) at (lines_counted s (length s) e (omega arith))

pub end_is : (s : List ℕ) (line column : ℕ) → line ≡ line_behind (reverse s) → column ≡ column_behind (reverse s) → record { line = line; column = column; offset = length s } ≡ place_after s
end_is s line column e h = rw (e, h) refl
