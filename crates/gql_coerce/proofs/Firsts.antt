-- The first of each name in a list with one more at its end.
use Rattle.std.proofs.Common.{◌≡◌, ◌++◌, ℕ, List, [], ◌∷◌, Bool, true, false, not, ◌||◌, ◌+◌, ◌<◌, length, get_or, take, map, filter, find, bytes_eq, refl, ap, ◌∙◌, cond, arith}
use Rattle.std.proofs.lemmas.List.{take_more}
use Rattle.std.proofs.lemmas.Slice.Eq.{bytes_eq-Decides}
use Rattle.std.proofs.lemmas.Grind.{common_steps}
use Rattle.std.specs.List.{list_any}
use Rattle.std.proofs.lemmas.List.Folds.{list_any-append}
use Rattle.gql_coerce.specs.Inputs.{firsts_by}

module _ {A : Type 0} (name : A → List ℕ) where
  abbrev pub seen_in : A → List A → Bool
  seen_in x xs = list_any (λ y. bytes_eq (name x) (name y)) xs

  pub first_more : (xs : List A) (x : A) → firsts_by name (xs ++ x ∷ []) ≡ firsts_by name xs ++ cond (seen_in x xs) [] (x ∷ [])
  first_more [] x = refl
  first_more (y ∷ xs) x = grind (arith, common_steps, bytes_eq-Decides (name y) (name x), bytes_eq-Decides (name x) (name y), first_more xs x)

  -- one more was looked at
  pub seen_step : (q : List ℕ) (xs : List A) (i : ℕ) (x : A) (old new : Bool) → i < length xs → get_or xs i x ≡ x
      → old ≡ list_any (λ y. bytes_eq q (name y)) (take i xs)
      → new ≡ (old || bytes_eq q (name x))
      → new ≡ list_any (λ y. bytes_eq q (name y)) (take (i + 1) xs)
  seen_step q xs i x old new within item before after =
      rw (take_more xs i x within, item, list_any-append (λ y. bytes_eq q (name y)) (take i xs) (x ∷ [])) grind (arith, common_steps, before, after)

  pub first_step : (xs : List A) (i : ℕ) (x : A) (seen : Bool) (old new : List A) → i < length xs → get_or xs i x ≡ x
      → seen ≡ seen_in x (take i xs)
      → old ≡ firsts_by name (take i xs)
      → new ≡ old ++ cond seen [] (x ∷ [])
      → new ≡ firsts_by name (take (i + 1) xs)
  first_step xs i x seen old new within item were before after =
      rw (take_more xs i x within, item, first_more (take i xs) x) (after ∙ (λ k. before k ++ cond (were k) [] (x ∷ [])))

-- names stay where their holders are mapped
filter_map : {A B : Type 0} (of : A → B) (test : B → Bool) (xs : List A) → filter test (map of xs) ≡ map of (filter (λ x. test (of x)) xs)
filter_map of test [] = refl
filter_map of test (x ∷ xs) = grind (arith, common_steps, filter_map of test xs)

pub firsts_map : {A B : Type 0} (of : A → B) (name : B → List ℕ) (xs : List A) → firsts_by name (map of xs) ≡ map of (firsts_by (λ x. name (of x)) xs)
firsts_map of name [] = refl
firsts_map of name (x ∷ xs) = rw (firsts_map of name xs) (ap (λ ys. of x ∷ ys) (filter_map of (λ y. not (bytes_eq (name (of x)) (name y))) (firsts_by (λ x. name (of x)) xs)))

-- what depends on names alone is found among the first of each name
module _ {A : Type 0} (name : A → List ℕ) (test : List ℕ → Bool) where
  past_name : (n : List ℕ) (xs : List A) → test n ≡ false → find (λ y. test (name y)) (filter (λ y. not (bytes_eq n (name y))) xs) ≡ find (λ y. test (name y)) xs
  past_name n [] isnt = refl
  past_name n (y ∷ ys) isnt = grind (arith, common_steps, bytes_eq-Decides n (name y), past_name n ys isnt, isnt)

  by_test : (b : Bool) (x : A) (xs : List A) → test (name x) ≡ b → find (λ y. test (name y)) (firsts_by name xs) ≡ find (λ y. test (name y)) xs
      → find (λ y. test (name y)) (firsts_by name (x ∷ xs)) ≡ find (λ y. test (name y)) (x ∷ xs)
  by_test true x xs is more = grind (arith, common_steps, is)
  by_test false x xs is more = grind (arith, common_steps, is, past_name (name x) (firsts_by name xs) is, more)

  pub found_first : (xs : List A) → find (λ y. test (name y)) (firsts_by name xs) ≡ find (λ y. test (name y)) xs
  found_first [] = refl
  found_first (x ∷ xs) = by_test (test (name x)) x xs refl (found_first xs)
