-- Looking for one member of a list.
use Rattle.std.specs.Prelude.{◌≡◌, ◌<◌, ℕ, List, [], ◌∷◌, ◌++◌, Contains, take, length, ◌+◌}
use Rattle.std.proofs.Common.{ap, ◌∙◌, subst, inl, inr, get_or}
use Rattle.std.proofs.lemmas.List.{take_more}
use Rattle.std.proofs.lemmas.List.Elements.{Contains-push_cases, Contains-get_or}

module _ {A : Type 0} (xs : List A) (i : ℕ) (x own : A) (within : i < length xs) (item : get_or xs i x ≡ x) where
  pub not_yet : (Contains (take i xs) own → ⊥) → (x ≡ own → ⊥) → Contains (take (i + 1) xs) own → ⊥
  not_yet before other h = elim (Contains-push_cases (take i xs) x own (subst (λ l. Contains l own) (take_more xs i x within ∙ ap (λ y. take i xs ++ y ∷ []) item) h)) [
    | inl m ↦ before m
    | inr same ↦ other same
  ]

  pub it_is : x ≡ own → Contains xs own
  it_is same = subst (Contains xs) (item ∙ same) (Contains-get_or xs i x within)
