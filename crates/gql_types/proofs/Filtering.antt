-- The elements of a list that pass a test: where they are, in what the list was made from, and what
-- is found in them alone.
use Rattle.std.proofs.Common.{◌≡◌, ◌+◌, ◌++◌, ◌<◌, ◌≤◌, ◌⊎◌, ℕ, List, [], ◌∷◌, Bool, true, false, Some, None, filter, flat_map, map, take, length, get_or, slice_get, option_map, if◌then◌else◌, refl, ap, ◌∙◌, sym, subst, inl, inr, arith}
use Rattle.std.proofs.lemmas.List.{append-nil, length-map, take_more, map-append}
use Rattle.std.proofs.lemmas.List.Elements.{All-get_or, filter-append, filter_passes}
use Rattle.std.proofs.lemmas.Option.{slice_get-map, slice_get-get_or, slice_get_within, slice_get_cases, get_or_from_slice_get}

pub either : (b : Bool) → (b ≡ true) ⊎ (b ≡ false)
either true = inl refl
either false = inr refl

-- those of what a list was made from
pub filter_made : {A B : Type 0} (f : A → B) (test : B → Bool) (xs : List A)
    → filter test (map f xs) ≡ map f (filter (λ x. test (f x)) xs)
filter_made f test [] = refl
filter_made f test (x ∷ xs) = elim (either (test (f x))) [
  | inl h ↦ rw h (ap (λ ys. f x ∷ ys) (filter_made f test xs))
  | inr h ↦ rw h (filter_made f test xs)
]

-- what is found in them alone, where nothing is found in the others
pub found_in_these : {A B : Type 0} (test : A → Bool) (find_in : A → List B)
    → ((x : A) → test x ≡ false → find_in x ≡ []) → (xs : List A)
    → flat_map find_in (filter test xs) ≡ flat_map find_in xs
found_in_these test find_in none [] = refl
found_in_these test find_in none (x ∷ xs) = elim (either (test x)) [
  | inl h ↦ rw h (ap (λ ys. find_in x ++ ys) (found_in_these test find_in none xs))
  | inr h ↦ rw (h, none x h) (found_in_these test find_in none xs)
]

-- each of them passes
pub passes : {A : Type 0} (test : A → Bool) (xs : List A) (i : ℕ) (x : A)
    → slice_get (filter test xs) i ≡ Some x → test x ≡ true
passes test xs i x is = subst (λ z. test z ≡ true) (get_or_from_slice_get (filter test xs) i x x is)
    (All-get_or (λ z. test z ≡ true) (filter test xs) i x (slice_get_within (filter test xs) i x is) (filter_passes test xs))

-- ---- their places

-- these are the places of those
abbrev pub ArePlaces : {A : Type 0} → List A → List ℕ → List A → Type 0
ArePlaces xs places ys = map (λ i. slice_get xs i) places ≡ map Some ys

module _ {A : Type 0} (test : A → Bool) (xs : List A) (places : List ℕ) (i : ℕ) (x : A)
    (within : i < length xs) (is : get_or xs i x ≡ x)
    (before : ArePlaces xs places (filter test (take i xs))) where
  one_more : filter test (take (i + 1) xs) ≡ filter test (take i xs) ++ filter test (x ∷ [])
  one_more = ap (filter test) (take_more xs i x within ∙ ap (λ y. take i xs ++ y ∷ []) is) ∙ filter-append test (take i xs) (x ∷ [])

  there : slice_get xs i ≡ Some x
  there = slice_get-get_or xs i x within ∙ ap Some is

  -- with one that passes
  pub place_added : test x ≡ true → ArePlaces xs (places ++ i ∷ []) (filter test (take (i + 1) xs))
  place_added h = map-append (λ j. slice_get xs j) places (i ∷ [])
      ∙ ap (λ os. os ++ slice_get xs i ∷ []) before
      ∙ ap (λ o. map Some (filter test (take i xs)) ++ o ∷ []) there
      ∙ sym (ap (map Some) (one_more ∙ ap (λ b. filter test (take i xs) ++ (if b then x ∷ [] else [])) h) ∙ map-append Some (filter test (take i xs)) (x ∷ []))

  -- with one that does not
  pub place_passed : test x ≡ false → ArePlaces xs places (filter test (take (i + 1) xs))
  place_passed h = before ∙ sym (ap (map Some) (one_more ∙ ap (λ b. filter test (take i xs) ++ (if b then x ∷ [] else [])) h
      ∙ append-nil (filter test (take i xs))))

-- what is at one of these places
pub at_place : {A : Type 0} (xs ys : List A) (places : List ℕ) (k d : ℕ) → ArePlaces xs places ys → k < length ys
    → (x : A) × (slice_get ys k ≡ Some x) × (slice_get xs (get_or places k d) ≡ Some x)
at_place {A = A} xs ys places k d are within = by_case (slice_get_cases ys k).1 where
  many : length places ≡ length ys
  many = sym (length-map places (λ i. slice_get xs i)) ∙ ap length are ∙ length-map ys Some

  by_case : ((x : A) × (k < length ys) × (slice_get ys k ≡ Some x) × (get_or ys k x ≡ x)) ⊎ ((length ys ≤ k) × (slice_get ys k ≡ None))
      → (x : A) × (slice_get ys k ≡ Some x) × (slice_get xs (get_or places k d) ≡ Some x)
  by_case (inr past) = absurd (omega (arith, past.0, within))
  by_case (inl (x, lt, is, e)) = (x, is, same) where
    both : Some (slice_get xs (get_or places k d)) ≡ Some (Some x)
    both = sym (ap (option_map (λ i. slice_get xs i)) (slice_get-get_or places k d (rw many lt)))
        ∙ sym (slice_get-map (λ i. slice_get xs i) places k) ∙ ap (λ os. slice_get os k) are
        ∙ slice_get-map Some ys k ∙ ap (option_map Some) is

    same : slice_get xs (get_or places k d) ≡ Some x
    same = cc both

-- there are as many places
pub many_places : {A : Type 0} (xs ys : List A) (places : List ℕ) → ArePlaces xs places ys → length places ≡ length ys
many_places xs ys places are = sym (length-map places (λ i. slice_get xs i)) ∙ ap length are ∙ length-map ys Some
