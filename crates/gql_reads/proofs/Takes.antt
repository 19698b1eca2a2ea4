-- The first members of a list that grows at its end.
use Rattle.std.proofs.Common.{◌≡◌, ◌⊎◌, inl, inr, ℕ, zero, suc, ◌+◌, ◌≤◌, ◌<◌, List, [], ◌∷◌, ◌++◌, Bool, Some, length, take, get_or, slice_get, ap, sym, subst, ◌∙◌, refl, arith, length-append, Contains, if◌then◌else◌}
use Rattle.std.specs.List.{list_any}
use Rattle.std.proofs.lemmas.List.{take_more}
use Rattle.std.proofs.lemmas.List.Elements.{Contains-push_cases}
use Rattle.indexmap.specs.IndexSet.{insert_key}
use Rattle.gql_facts.specs.ListMembers.{Contains-here, Contains-there, either, some_same}

module _ {A : Type 0} where
  pub take_next : (xs more : List A) (i : ℕ) (x : A) → slice_get xs i ≡ Some x → take (suc i) (xs ++ more) ≡ take i xs ++ x ∷ []
  take_next [] more i x e = absurd (cc e)
  take_next (y ∷ xs) more zero x e = ap (λ z. z ∷ []) (some_same y x e)
  take_next (y ∷ xs) more (suc i) x e = ap (λ l. y ∷ l) (take_next xs more i x e)

  pub at_there : (xs : List A) (i : ℕ) (x : A) → slice_get xs i ≡ Some x → Contains xs x
  at_there [] i x e = absurd (cc e)
  at_there (y ∷ xs) zero x e = subst (λ z. Contains (y ∷ xs) z) (some_same y x e) (Contains-here y xs)
  at_there (y ∷ xs) (suc i) x e = Contains-there x y xs (at_there xs i x e)

  pub all_taken : (xs : List A) (i : ℕ) → length xs ≤ i → take i xs ≡ xs
  all_taken [] zero h = refl
  all_taken [] (suc i) h = refl
  all_taken (x ∷ xs) zero h = absurd (omega (arith, h))
  all_taken (x ∷ xs) (suc i) h = ap (λ l. x ∷ l) (all_taken xs i (omega (arith, h)))

  -- before the end there is a member
  pub member_at : (xs : List A) (i : ℕ) → i < length xs → (x : A) × (slice_get xs i ≡ Some x)
  member_at [] i h = absurd (omega (arith, h))
  member_at (x ∷ xs) zero h = (x, refl)
  member_at (x ∷ xs) (suc i) h = member_at xs i (omega (arith, h))

  pub longer : (xs more new : List A) (i : ℕ) → new ≡ xs ++ more → i < length xs → i + 1 ≤ length new
  longer xs more new i e lt = rw e (omega (arith, lt, length-append xs more))

  -- what a key that is put into a set comes from
  pub inserted_cases : (eq : A → A → Bool) (xs : List A) (x y : A) → Contains (insert_key eq xs x) y → Contains xs y ⊎ (y ≡ x)
  inserted_cases eq xs x y h = elim (either (list_any (eq x) xs)) [
    | inl q ↦ inl (subst (λ b. Contains (if b then xs else xs ++ x ∷ []) y) q h)
    | inr q ↦ elim (Contains-push_cases xs x y (subst (λ b. Contains (if b then xs else xs ++ x ∷ []) y) q h)) [ inl o ↦ inl o | inr e ↦ inr (sym e) ]
  ]

-- what a loop over a list has seen
module _ {A : Type 0} (xs : List A) (i : ℕ) (x : A) (lt : i < length xs) (is : x ≡ get_or xs i x) where
  pub one_more : take (i + 1) xs ≡ take i xs ++ x ∷ []
  one_more = take_more xs i x lt ∙ ap (λ y. take i xs ++ y ∷ []) (sym is)

  pub seen_more : (y : A) → Contains (take (i + 1) xs) y → Contains (take i xs) y ⊎ (x ≡ y)
  seen_more y h = Contains-push_cases (take i xs) x y (subst (λ zs. Contains zs y) one_more h)
