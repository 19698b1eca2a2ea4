-- One item more of a list.
use Rattle.std.proofs.Common.{◌≡◌, ◌<◌, ◌+◌, ◌∙◌, ℕ, List, [], ◌∷◌, ◌++◌, length, take, get_or, ap, sym, subst, Bool, true, false, Some, slice_get}
use Rattle.std.specs.List.{AllZip}
use Rattle.std.proofs.lemmas.List.{take_more}
use Rattle.std.proofs.lemmas.Option.{slice_get-get_or}

pub take_next : {A : Type 0} (xs : List A) (i : ℕ) (x : A) → i < length xs → x ≡ get_or xs i x → take (i + 1) xs ≡ take i xs ++ x ∷ []
take_next xs i x within is = take_more xs i x within ∙ ap (λ y. take i xs ++ y ∷ []) (sym is)

-- both lists grow by a pair that is related
zip_push : {A B : Type 0} (R : A → B → Type 0) (xs : List A) (ys : List B) (x : A) (y : B) → AllZip R xs ys → R x y → AllZip R (xs ++ x ∷ []) (ys ++ y ∷ [])
zip_push R [] [] x y h r = (r, tt)
zip_push R [] (b ∷ bs) x y h r = absurd h
zip_push R (a ∷ us) [] x y h r = absurd h
zip_push R (a ∷ us) (b ∷ bs) x y h r = (h.0, zip_push R us bs x y h.1 r)

pub zip_more : {A B : Type 0} (R : A → B → Type 0) (xs : List A) (ys zs : List B) (i : ℕ) (x : A) (y : B) → i < length xs → x ≡ get_or xs i x → AllZip R (take i xs) ys → R x y → zs ≡ ys ++ y ∷ [] → AllZip R (take (i + 1) xs) zs
zip_more R xs ys zs i x y within is h r e =
    subst (λ ws. AllZip R ws zs) (sym (take_next xs i x within is))
    (subst (λ ws. AllZip R (take i xs ++ x ∷ []) ws) (sym e) (zip_push R (take i xs) ys x y h r))

-- a test is not both true and false
pub differ : {A : Type 0} (b : Bool) → b ≡ true → b ≡ false → A
differ b is not_so = absurd (cc (sym is ∙ not_so))

-- an item that was found at an index is the one there
pub found_at : {A : Type 0} (xs ys : List A) (i : ℕ) (x : A) → ys ≡ xs → i < length ys → x ≡ get_or ys i x → slice_get xs i ≡ Some x
found_at xs ys i x same within is = subst (λ zs. slice_get zs i ≡ Some x) same (slice_get-get_or ys i x within ∙ ap Some (sym is))
