-- What a loop over a list has seen.
use Rattle.std.proofs.Common.{◌≡◌, ℕ, ◌+◌, ◌<◌, ◌⊎◌, List, [], ◌∷◌, ◌++◌, length, map, take, get_or, sym, ◌∙◌, ap, subst, Contains}
use Rattle.std.proofs.lemmas.List.{take_more, get_or-map, length-map}
use Rattle.std.proofs.lemmas.List.Elements.{Contains-push, Contains-push_cases, Contains-append_left}

module _ {A : Type 0} (xs : List A) (i : ℕ) (x : A) (lt : i < length xs) (is : x ≡ get_or xs i x) where
  pub take_next : take (i + 1) xs ≡ take i xs ++ x ∷ []
  take_next = take_more xs i x lt ∙ ap (λ y. take i xs ++ y ∷ []) (sym is)

  pub seen_more : (y : A) → Contains (take (i + 1) xs) y → Contains (take i xs) y ⊎ (x ≡ y)
  seen_more y h = Contains-push_cases (take i xs) x y (subst (λ zs. Contains zs y) take_next h)

  pub seen_old : (y : A) → Contains (take i xs) y → Contains (take (i + 1) xs) y
  seen_old y h = subst (λ zs. Contains zs y) (sym take_next) (Contains-append_left (take i xs) (x ∷ []) y h)

  pub seen_here : Contains (take (i + 1) xs) x
  seen_here = subst (λ zs. Contains zs x) (sym take_next) (Contains-push (take i xs) x)

-- the same at a made list
module _ {A B : Type 0} (f : A → B) (xs : List A) (i : ℕ) (x : A) (lt : i < length xs) (is : x ≡ get_or xs i x) where
  pub made_within : i < length (map f xs)
  made_within = rw length-map lt

  pub made_item : f x ≡ get_or (map f xs) i (f x)
  made_item = ap f is ∙ sym (get_or-map f xs i x (f x) lt)
