-- The first in two lists, one after the other.
use Rattle.std.specs.Prelude.{◌≡◌, ◌<◌, ◌+◌, ℕ, suc, List, ◌++◌, length, drop, find, flat_map, Bool, Some, None}
use Rattle.std.specs.Option.{option_or}
use Rattle.std.proofs.Common.{ap, sym, ◌∙◌, get_or, add-one}
use Rattle.std.proofs.Math.Seq.{drop-cons}
use Rattle.std.proofs.lemmas.List.Folds.{find-append}

pub found_before : {A : Type 0} (p : A → Bool) (xs ys : List A) (x : A) → find p xs ≡ Some x → find p (xs ++ ys) ≡ Some x
found_before p xs ys x e = find-append p xs ys ∙ ap (λ o. option_or o (find p ys)) e

pub found_after : {A : Type 0} (p : A → Bool) (xs ys : List A) → find p xs ≡ None → find p (xs ++ ys) ≡ find p ys
found_after p xs ys e = find-append p xs ys ∙ ap (λ o. option_or o (find p ys)) e

-- ---- in a list of lists, from a place on

pub next_found : {A B : Type 0} (p : B → Bool) (f : A → List B) (xs : List A) (i : ℕ) (x : A) (y : B) → i < length xs → x ≡ get_or xs i x → find p (f x) ≡ Some y → find p (flat_map f (drop i xs)) ≡ Some y
next_found p f xs i x y h e found = ap (λ l. find p (flat_map f l)) (drop-cons xs i x h)
    ∙ ap (λ z. find p (f z ++ flat_map f (drop (suc i) xs))) (sym e)
    ∙ found_before p (f x) (flat_map f (drop (suc i) xs)) y found

pub next_after : {A B : Type 0} (p : B → Bool) (f : A → List B) (xs : List A) (i : ℕ) (x : A) → i < length xs → x ≡ get_or xs i x → find p (f x) ≡ None → find p (flat_map f (drop i xs)) ≡ find p (flat_map f (drop (i + 1) xs))
next_after p f xs i x h e missing = ap (λ l. find p (flat_map f l)) (drop-cons xs i x h)
    ∙ ap (λ z. find p (f z ++ flat_map f (drop (suc i) xs))) (sym e)
    ∙ found_after p (f x) (flat_map f (drop (suc i) xs)) missing
    ∙ ap (λ k. find p (flat_map f (drop k xs))) (sym (add-one i))
