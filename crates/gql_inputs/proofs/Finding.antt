-- Searches: something is found just where something passes, and in what a list was made from.
use Rattle.std.proofs.Common.{◌≡◌, ◌||◌, List, [], ◌∷◌, Bool, true, false, is_some, find, map, refl, ap, ◌∙◌, Option, Some, None, Bor}
use Rattle.std.specs.List.{list_any}
use Rattle.std.specs.Option.{option_copied, option_map}

by_test : {A : Type 0} (f : A → Bool) (x : A) (xs : List A) → is_some (find f xs) ≡ list_any f xs → (b : Bool) → f x ≡ b → is_some (find f (x ∷ xs)) ≡ list_any f (x ∷ xs)
by_test f x xs rest true e = rw e refl
by_test f x xs rest false e = rw e rest

pub is_some_find : {A : Type 0} (f : A → Bool) (xs : List A) → is_some (find f xs) ≡ list_any f xs
is_some_find f [] = refl
is_some_find f (x ∷ xs) = by_test f x xs (is_some_find f xs) (f x) refl

there_is : {A : Type 0} (o : Option (Bor A)) → is_some o ≡ is_some (option_copied o)
there_is None = refl
there_is (Some x) = refl

pub is_found : {A : Type 0} (o : Option (Bor A)) (f : A → Bool) (xs : List A) → option_copied o ≡ find f xs → is_some o ≡ list_any f xs
is_found o f xs is = there_is o ∙ ap is_some is ∙ is_some_find f xs

-- a test of what a list was made from
pub any_made : {A B : Type 0} (f : A → B) (test : B → Bool) (xs : List A) → list_any test (map f xs) ≡ list_any (λ x. test (f x)) xs
any_made f test [] = refl
any_made f test (x ∷ xs) = ap (λ b. test (f x) || b) (any_made f test xs)

made_by : {A B : Type 0} (f : A → B) (test : B → Bool) (x : A) (xs : List A) (b : Bool) → test (f x) ≡ b
    → find test (map f xs) ≡ option_map f (find (λ y. test (f y)) xs) → find test (map f (x ∷ xs)) ≡ option_map f (find (λ y. test (f y)) (x ∷ xs))
made_by f test x xs true e later = rw e refl
made_by f test x xs false e later = rw e later

-- a search in what a list was made from
pub find_made : {A B : Type 0} (f : A → B) (test : B → Bool) (xs : List A) → find test (map f xs) ≡ option_map f (find (λ x. test (f x)) xs)
find_made f test [] = refl
find_made f test (x ∷ xs) = made_by f test x xs (test (f x)) refl (find_made f test xs)
