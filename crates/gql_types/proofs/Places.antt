-- The first of a name, by where it stands.
use Rattle.std.proofs.Common.{◌≡◌, ◌+◌, ◌++◌, ℕ, List, [], ◌∷◌, Bool, Option, length, find, refl, slice_get, option_and_then, arith, cond, true, false, append_assoc, ◌∙◌, ap, sym, map, bytes_eq, ◌-◌, ◌<◌, ◌≤◌, get_or, drop}
use Rattle.std.proofs.lemmas.List.{drop_more}
use Rattle.std.proofs.Math.ListN.{length-append}
use Rattle.std.specs.List.{position_from}
use Rattle.std.proofs.lemmas.Grind.{common_steps}

module _ {X : Type 0} where
  get_behind : (before : List X) (x : X) (xs : List X) → slice_get (before ++ x ∷ xs) (length before) ≡ Option.Some x
  get_behind [] x xs = refl
  get_behind (y ∷ before) x xs = grind (arith, common_steps, get_behind before x xs)

  step : (test : X → Bool) (before : List X) (x : X) (xs : List X) (b : Bool)
      → option_and_then (λ i. slice_get ((before ++ x ∷ []) ++ xs) i) (position_from test (length (before ++ x ∷ [])) xs) ≡ find test xs
      → option_and_then (λ i. slice_get (before ++ x ∷ xs) i) (cond b (Option.Some (length before)) (position_from test (length before + 1) xs)) ≡ cond b (Option.Some x) (find test xs)
  step test before x xs true rest = get_behind before x xs
  step test before x xs false rest = rw (append_assoc before (x ∷ []) xs, length-append before (x ∷ [])) at rest

  found_behind : (test : X → Bool) (before xs : List X) → option_and_then (λ i. slice_get (before ++ xs) i) (position_from test (length before) xs) ≡ find test xs
  found_behind test before [] = refl
  found_behind test before (x ∷ xs) = step test before x xs (test x) (found_behind test (before ++ x ∷ []) xs)

  pub found_there : (test : X → Bool) (xs : List X) → option_and_then (λ i. slice_get xs i) (position_from test 0 xs) ≡ find test xs
  found_there test xs = found_behind test [] xs

  -- one place further to the front
  pub place_before : (test : X → Bool) (xs : List X) (p : ℕ) (x : X) → 0 < p → p ≤ length xs → get_or xs (p - 1) x ≡ x
      → position_from test (p - 1) (drop (p - 1) xs) ≡ cond (test x) (Option.Some (p - 1)) (position_from test p (drop p xs))
  place_before test xs p x some within there =
      let next : p - 1 + 1 ≡ p = omega arith in
      rw (drop_more xs (p - 1) x (omega arith), there, next) refl

-- where the first of a name is, by the list of the names alone
pub by_names : {X N : Type 0} (name : X → N) (test : N → Bool) (p : ℕ) (xs : List X)
    → position_from (λ x. test (name x)) p xs ≡ position_from test p (map name xs)
by_names name test p [] = refl
by_names name test p (x ∷ xs) = ap (cond (test (name x)) (Option.Some p)) (by_names name test (p + 1) xs)

-- lists of the same names have the first of a name at the same place
pub same_places : {X Y : Type 0} (name : X → List ℕ) (other : Y → List ℕ) (xs : List X) (ys : List Y) (q : List ℕ)
    → map name xs ≡ map other ys
    → position_from (λ x. bytes_eq q (name x)) 0 xs ≡ position_from (λ y. bytes_eq q (other y)) 0 ys
same_places name other xs ys q same =
    by_names name (bytes_eq q) 0 xs ∙ ap (λ names. position_from (bytes_eq q) 0 names) same ∙ sym (by_names other (bytes_eq q) 0 ys)
