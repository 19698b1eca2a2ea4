-- The elements that are there, in a list where some are none.
use Rattle.std.proofs.Common.{◌≡◌, ℕ, zero, suc, ◌+◌, ◌<◌, ◌≤◌, List, [], ◌∷◌, ◌++◌, length, drop, get_or, flat_map, Option, Some, None, sym, ap, ◌∙◌, arith, add-one}
use Rattle.std.specs.Prelude.{option_and_then, option_to_list, slice_get}

module _ {A : Type 0} where
  first_is : (x y : A) (xs ys : List A) → x ∷ xs ≡ y ∷ ys → x ≡ y
  first_is x y xs ys e = cc

  rest_is : (x y : A) (xs ys : List A) → x ∷ xs ≡ y ∷ ys → xs ≡ ys
  rest_is x y xs ys e = cc

  -- where x is the first that is left
  pub within_rest : (xs : List A) (k : ℕ) (x : A) (rest : List A) → drop k xs ≡ x ∷ rest → k < length xs
  within_rest [] zero x rest e = cc
  within_rest [] (suc k) x rest e = cc
  within_rest (y ∷ ys) zero x rest e = omega arith
  within_rest (y ∷ ys) (suc k) x rest e = omega (arith, within_rest ys k x rest e)

  pub here_rest : (xs : List A) (k : ℕ) (x : A) (rest : List A) → drop k xs ≡ x ∷ rest → x ≡ get_or xs k x
  here_rest [] zero x rest e = cc
  here_rest [] (suc k) x rest e = cc
  here_rest (y ∷ ys) zero x rest e = sym (first_is y x ys rest e)
  here_rest (y ∷ ys) (suc k) x rest e = here_rest ys k x rest e

  after_rest : (xs : List A) (k : ℕ) (x : A) (rest : List A) → drop k xs ≡ x ∷ rest → drop (suc k) xs ≡ rest
  after_rest [] zero x rest e = cc
  after_rest [] (suc k) x rest e = cc
  after_rest (y ∷ ys) zero x rest e = rest_is y x ys rest e
  after_rest (y ∷ ys) (suc k) x rest e = after_rest ys k x rest e

  -- the elements that are left, where the next place has one or has none
  pub picked_some : (es : List (Option A)) (i : ℕ) (x : A) → i < length es → option_and_then (λ (e : Option A). e) (slice_get es i) ≡ Some x
      → flat_map option_to_list (drop i es) ≡ x ∷ flat_map option_to_list (drop (i + 1) es)
  picked_some [] i x h e = absurd (omega (arith, h))
  picked_some (o ∷ es) zero x h e = ap (λ y. option_to_list y ++ flat_map option_to_list es) e
  picked_some (o ∷ es) (suc i) x h e = picked_some es i x (omega (arith, h)) e
      ∙ ap (λ n. x ∷ flat_map option_to_list (drop n (o ∷ es))) (ap suc (add-one i) ∙ sym (add-one (suc i)))

  pub picked_none : (es : List (Option A)) (i : ℕ) → i < length es → option_and_then (λ (e : Option A). e) (slice_get es i) ≡ None
      → flat_map option_to_list (drop i es) ≡ flat_map option_to_list (drop (i + 1) es)
  picked_none [] i h e = absurd (omega (arith, h))
  picked_none (o ∷ es) zero h e = ap (λ y. option_to_list y ++ flat_map option_to_list es) e
  picked_none (o ∷ es) (suc i) h e = picked_none es i (omega (arith, h)) e
      ∙ ap (λ n. flat_map option_to_list (drop n (o ∷ es))) (ap suc (add-one i) ∙ sym (add-one (suc i)))

  -- one more is done
  pub after_picked : (xs : List A) (k : ℕ) (x : A) (rest : List A) → drop k xs ≡ x ∷ rest → drop (k + 1) xs ≡ rest
  after_picked xs k x rest e = ap (λ n. drop n xs) (add-one k) ∙ after_rest xs k x rest e

  pub none_left : (xs : List A) (k : ℕ) → drop k xs ≡ [] → length xs ≤ k
  none_left [] k e = omega arith
  none_left (y ∷ ys) zero e = cc
  none_left (y ∷ ys) (suc k) e = omega (arith, none_left ys k e)
