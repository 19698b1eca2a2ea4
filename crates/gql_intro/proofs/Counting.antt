-- Lists of names in runs: how many names there are up to a run, and the name at a place.
use Rattle.std.proofs.Common.{add-one, map, slice_range, ◌≡◌, ◌∙◌, ◌++◌, ◌+◌, ◌-◌, ◌<◌, ◌≤◌, ℕ, zero, suc, List, [], ◌∷◌, None, length, take, get_or, slice_get, refl, sym, ap, subst, arith}
use Rattle.std.proofs.Math.ListN.{length-append}
use Rattle.std.proofs.Math.Seq.{take-add, take-length}
use Rattle.std.proofs.lemmas.Option.{slice_get_past}
use Rattle.std.proofs.lemmas.Grind.{flat_map-append}
use Rattle.std.proofs.lemmas.List.{append-nil, map-append}
use Rattle.gql_intro.specs.Runs.{AreCounted, names_of}
use Rattle.gql_intro.specs.declared.runs.Run.{Run}

-- ---- counts

pub counted : (before : ℕ) (runs : List Run) (k : ℕ) (d : Run) → AreCounted before runs → k < length runs
    → (get_or runs k d).end ≡ before + length (names_of (take (suc k) runs))
counted before [] k d are h = absurd (omega (arith, h))
counted before (r ∷ runs) zero d are h = are.0 ∙ ap (λ l. before + length l) (sym (append-nil r.names))
counted before (r ∷ runs) (suc k) d are h =
    let rest : (get_or runs k d).end ≡ r.end + length (names_of (take (suc k) runs)) = counted r.end runs k d are.1 (omega (arith, h)) in
    let first : r.end ≡ before + length r.names = are.0 in
    omega (arith, rest, first, length-append r.names (names_of (take (suc k) runs)))

pub ends_at : (runs : List Run) (k : ℕ) (r : Run) → AreCounted 0 runs → k < length runs → r ≡ get_or runs k r → r.end ≡ length (names_of (take (k + 1) runs))
ends_at runs k r are h is =
    let end : (get_or runs k r).end ≡ 0 + length (names_of (take (suc k) runs)) = counted 0 runs k r are h in
    let next : length (names_of (take (suc k) runs)) ≡ length (names_of (take (k + 1) runs)) = ap (λ j. length (names_of (take j runs))) (sym (add-one k)) in
    let same : r.end ≡ (get_or runs k r).end = ap (λ (z : Run). z.end) is in
    omega (arith, end, next, same)

-- the names up to a run are those before it and its own
pub up_to : (runs : List Run) (k : ℕ) (d : Run) → k < length runs
    → length (names_of (take (suc k) runs)) ≡ length (names_of (take k runs)) + length (get_or runs k d).names
up_to [] k d h = absurd (omega (arith, h))
up_to (r ∷ runs) zero d h = omega (arith, ap length (append-nil r.names))
up_to (r ∷ runs) (suc k) d h = omega (arith, up_to runs k d (omega (arith, h)), length-append r.names (names_of (take (suc k) runs)), length-append r.names (names_of (take k runs)))

-- one more run at the end
pub counted_more : (before : ℕ) (runs : List Run) (r : Run) → AreCounted before runs → r.end ≡ before + length (names_of runs) + length r.names → AreCounted before (runs ++ r ∷ [])
counted_more before [] r are e = (omega (arith, e), tt)
counted_more before (s ∷ runs) r are e =
    let first : s.end ≡ before + length s.names = are.0 in
    (are.0, counted_more s.end runs r are.1 (omega (arith, e, first, length-append s.names (names_of runs))))

pub names_more : (runs : List Run) (r : Run) → names_of (runs ++ r ∷ []) ≡ names_of runs ++ r.names
names_more runs r = flat_map-append (λ (s : Run). s.names) runs (r ∷ []) ∙ ap (λ l. names_of runs ++ l) (append-nil r.names)

-- ---- the name at a place

at_first : (xs ys : List (List ℕ)) (i : ℕ) → i < length xs → slice_get (xs ++ ys) i ≡ slice_get xs i
at_first [] ys i h = absurd (omega (arith, h))
at_first (x ∷ xs) ys zero h = refl
at_first (x ∷ xs) ys (suc i) h = at_first xs ys i (omega (arith, h))

at_last : (xs ys : List (List ℕ)) (i : ℕ) → length xs ≤ i → slice_get (xs ++ ys) i ≡ slice_get ys (i - length xs)
at_last [] ys i h = let e : i ≡ i - 0 = omega arith in ap (slice_get ys) e
at_last (x ∷ xs) ys zero h = absurd (omega (arith, h))
at_last (x ∷ xs) ys (suc i) h =
    let place : i - length xs ≡ suc i - suc (length xs) = omega arith in
    at_last xs ys i (omega (arith, h)) ∙ ap (slice_get ys) place

pub name_in : (runs : List Run) (k i : ℕ) (d : Run) → k < length runs → length (names_of (take k runs)) ≤ i → i < length (names_of (take (suc k) runs))
    → slice_get (get_or runs k d).names (i - length (names_of (take k runs))) ≡ slice_get (names_of runs) i
name_in [] k i d h from to = absurd (omega (arith, h))
name_in (r ∷ runs) zero i d h from to =
    let inside : i < length r.names = subst (λ l. i < length l) (append-nil r.names) to in
    let place : i - 0 ≡ i = omega arith in
    ap (slice_get r.names) place ∙ sym (at_first r.names (names_of runs) i inside)
name_in (r ∷ runs) (suc k) i d h from to =
    let before : length (names_of (take (suc k) (r ∷ runs))) ≡ length r.names + length (names_of (take k runs)) = length-append r.names (names_of (take k runs)) in
    let later : length (names_of (take (suc (suc k)) (r ∷ runs))) ≡ length r.names + length (names_of (take (suc k) runs)) = length-append r.names (names_of (take (suc k) runs)) in
    let place : i - length (names_of (take (suc k) (r ∷ runs))) ≡ (i - length r.names) - length (names_of (take k runs)) = omega (arith, before) in
    ap (slice_get (get_or runs k d).names) place
    ∙ name_in runs k (i - length r.names) d (omega (arith, h)) (omega (arith, from, before)) (omega (arith, from, to, before, later))
    ∙ sym (at_last r.names (names_of runs) i (omega (arith, from, before)))

-- there is none behind the last
pub none_behind : (runs : List Run) (k i : ℕ) → k ≡ length runs → length (names_of (take k runs)) ≤ i → slice_get (names_of runs) i ≡ None
none_behind runs k i e h =
    let whole : take k runs ≡ runs = ap (λ j. take j runs) e ∙ take-length runs in
    slice_get_past (names_of runs) i (subst (λ l. length (names_of l) ≤ i) whole h)

-- the run at a place, where `within` says that it is not behind the last
module _ (runs : List Run) (k i : ℕ) (r : Run) (are : AreCounted 0 runs) (h : k < length runs) (is : r ≡ get_or runs k r) where
  own_names : length (names_of (take (k + 1) runs)) ≡ length (names_of (take k runs)) + length r.names
  own_names =
      ap (λ j. length (names_of (take j runs))) (add-one k) ∙ up_to runs k r h
      ∙ ap (λ (z : Run). length (names_of (take k runs)) + length z.names) (sym is)

  pub is_counted : length r.names ≤ r.end
  is_counted = omega (arith, own_names, ends_at runs k r are h is)

  pub starts : r.end - length r.names ≡ length (names_of (take k runs))
  starts = omega (arith, own_names, ends_at runs k r are h is)

  pub name_there : length (names_of (take k runs)) ≤ i → i < length (names_of (take (k + 1) runs))
      → slice_get r.names (i - (r.end - length r.names)) ≡ slice_get (names_of runs) i
  name_there from to =
      ap (λ j. slice_get r.names (i - j)) starts
      ∙ ap (λ (z : Run). slice_get z.names (i - length (names_of (take k runs)))) is
      ∙ name_in runs k i r h from (subst (λ j. i < length (names_of (take j runs))) (add-one k) to)

-- one more piece of a list
pub piece_more : {A B : Type 0} (f : A → B) (xs : List A) (from to : ℕ) → from ≤ to → map f (take to xs) ≡ map f (take from xs) ++ map f (slice_range xs from to)
piece_more f xs from to h =
    let sum : to ≡ from + (to - from) = omega (arith, h) in
    ap (λ k. map f (take k xs)) sum ∙ ap (map f) (take-add from (to - from) xs) ∙ map-append f (take from xs) (slice_range xs from to)
