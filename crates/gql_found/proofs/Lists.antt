-- One item more of a list.
use Rattle.std.proofs.Common.{◌≡◌, ◌<◌, ◌+◌, ◌∙◌, ℕ, List, [], ◌∷◌, ◌++◌, length, map, take, get_or, ap, sym, subst, flat_map, Bool, true, false, Result, Ok, Err, OnOk, append-nil, Contains, inl, inr}
use Rattle.std.specs.List.{AllZip}
use Rattle.std.proofs.lemmas.List.{map-append, take_more}
use Rattle.std.proofs.lemmas.Grind.{flat_map-append}
use Rattle.std.proofs.lemmas.List.Elements.{Contains-push_cases}

pub take_next : {A : Type 0} (xs : List A) (i : ℕ) (x : A) → i < length xs → x ≡ get_or xs i x → take (i + 1) xs ≡ take i xs ++ x ∷ []
take_next xs i x within is = take_more xs i x within ∙ ap (λ y. take i xs ++ y ∷ []) (sym is)

-- both lists grow by a pair that is related
zip_push : {A B : Type 0} (R : A → B → Type 0) (xs : List A) (ys : List B) (x : A) (y : B) → AllZip R xs ys → R x y → AllZip R (xs ++ x ∷ []) (ys ++ y ∷ [])
zip_push R [] [] x y h r = (r, tt)
zip_push R [] (b ∷ bs) x y h r = absurd h
zip_push R (a ∷ us) [] x y h r = absurd h
zip_push R (a ∷ us) (b ∷ bs) x y h r = (h.0, zip_push R us bs x y h.1 r)

pub zip_more : {A B : Type 0} (R : A → B → Type 0) (xs : List A) (ys zs : List B) (i : ℕ) (x : A) (y : B) → i < length xs → x ≡ get_or xs i x → AllZip R (take i xs) ys → R x y → zs ≡ ys ++ y ∷ [] → AllZip R (take (i + 1) xs) zs
zip_more R xs ys zs i x y within is h r e =
    subst (λ ws. AllZip R ws zs) (sym (take_next xs i x within is))
    (subst (λ ws. AllZip R (take i xs ++ x ∷ []) ws) (sym e) (zip_push R (take i xs) ys x y h r))

-- the values of one item more
pub mapped_next : {A B : Type 0} (f : A → B) (xs : List A) (i : ℕ) (x : A) → i < length xs → x ≡ get_or xs i x → map f (take (i + 1) xs) ≡ map f (take i xs) ++ f x ∷ []
mapped_next f xs i x within is = ap (map f) (take_next xs i x within is) ∙ map-append f (take i xs) (x ∷ [])

-- what holds of the value of each item so far holds of one more
pub each_mapped : {A B : Type 0} (f : A → B) (P : B → Type 0) (xs : List A) (i : ℕ) (x : A) → i < length xs → x ≡ get_or xs i x → ((y : B) → Contains (map f (take i xs)) y → P y) → P (f x) → (y : B) → Contains (map f (take (i + 1) xs)) y → P y
each_mapped f P xs i x within is h p y c = elim (Contains-push_cases (map f (take i xs)) (f x) y (subst (λ ys. Contains ys y) (mapped_next f xs i x within is) c)) [
  | inl o ↦ h y o
  | inr e ↦ subst P e p
]

-- what a function makes of each item is made of one more
pub flat_next : {A B C : Type 0} (f : A → B) (g : B → List C) (xs : List A) (i : ℕ) (x : A) (old new : List C) → i < length xs → x ≡ get_or xs i x → old ≡ flat_map g (map f (take i xs)) → new ≡ old ++ g (f x) → new ≡ flat_map g (map f (take (i + 1) xs))
flat_next f g xs i x old new within is before after =
    after ∙ ap (λ ys. ys ++ g (f x)) before ∙ ap (λ ys. flat_map g (map f (take i xs)) ++ ys) (sym (append-nil (g (f x))))
    ∙ sym (flat_map-append g (map f (take i xs)) (f x ∷ [])) ∙ ap (flat_map g) (sym (mapped_next f xs i x within is))

-- a test is not both true and false
pub differ : {A : Type 0} (b : Bool) → b ≡ true → b ≡ false → A
differ b is not_so = absurd (cc (sym is ∙ not_so))

-- what follows where there is a value
pub ok_then : {T E : Type 0} {P Q : Type 0} (r : Result T E) → OnOk r P → (P → Q) → OnOk r Q
ok_then (Ok v) h f = f h
ok_then (Err e) h f = tt
