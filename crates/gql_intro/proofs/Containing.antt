-- Elements of lists, and what is found in them.
use Rattle.std.specs.Prelude.{◌≡◌, ◌⊎◌, ℕ, zero, suc, List, [], ◌∷◌, map, flat_map, filter, find, Bool, true, false, cond, ◌||◌, bytes_eq, Option, Some, None, is_some, unwrap_or, option_to_list, Contains, refl}
use Rattle.std.specs.List.{AllByRecursion, list_any}
use Rattle.std.proofs.Common.{ap, sym, subst, ◌∙◌, inl, inr, arith, true≢false}
use Rattle.std.proofs.lemmas.List.Elements.{Contains-append_cases}
use Rattle.std.proofs.lemmas.Slice.Eq.{bytes_eq-Decides}

pub none_some : {A : Type 0} (x : A) → None ≡ Some x → ⊥
none_some x is = true≢false (sym (ap is_some is))

pub some_same : {A : Type 0} (x y : A) → Some x ≡ Some y → x ≡ y
some_same x y is = ap (λ o. unwrap_or o x) is

pub known_some : {A : Type 0} (o : Option A) → is_some o ≡ true → (x : A) × (o ≡ Some x)
known_some None is = absurd (true≢false (sym is))
known_some (Some x) is = (x, refl)

pub Contains-nil : {A : Type 0} (x : A) → Contains [] x → ⊥
Contains-nil x h = omega (arith, h.1)

pub Contains-here : {A : Type 0} (x : A) (xs : List A) → Contains (x ∷ xs) x
Contains-here x xs = (0, omega arith, refl)

pub Contains-there : {A : Type 0} (x y : A) (xs : List A) → Contains xs x → Contains (y ∷ xs) x
Contains-there x y xs h = (suc h.0, omega (arith, h.1), h.2)

pub Contains-cases : {A : Type 0} (x y : A) (xs : List A) → Contains (y ∷ xs) x → (x ≡ y) ⊎ Contains xs x
Contains-cases x y xs (zero, lt, e) = inl (sym e)
Contains-cases x y xs (suc k, lt, e) = inr (k, omega arith, e)

pub Contains-map : {A B : Type 0} (f : A → B) (xs : List A) (x : A) → Contains xs x → Contains (map f xs) (f x)
Contains-map f [] x h = absurd (Contains-nil x h)
Contains-map f (y ∷ ys) x h = elim (Contains-cases x y ys h) [
  | inl e ↦ subst (λ z. Contains (f y ∷ map f ys) (f z)) (sym e) (Contains-here (f y) (map f ys))
  | inr t ↦ Contains-there (f x) (f y) (map f ys) (Contains-map f ys x t)
]

pub Contains-map_from : {A B : Type 0} (f : A → B) (xs : List A) (y : B) → Contains (map f xs) y → (x : A) × Contains xs x × (f x ≡ y)
Contains-map_from f [] y h = absurd (Contains-nil y h)
Contains-map_from f (x ∷ xs) y h = elim (Contains-cases y (f x) (map f xs) h) [
  | inl e ↦ (x, Contains-here x xs, sym e)
  | inr t ↦ let r = Contains-map_from f xs y t in (r.0, Contains-there r.0 x xs r.1, r.2)
]

-- what a list of options has
option_has : {A : Type 0} (o : Option A) (x : A) → Contains (option_to_list o) x → o ≡ Some x
option_has None x h = absurd (Contains-nil x h)
option_has (Some y) x h = elim (Contains-cases x y [] h) [ inl e ↦ ap Some (sym e) | inr n ↦ absurd (Contains-nil x n) ]

pub Contains-options_from : {A B : Type 0} (f : A → Option B) (xs : List A) (y : B) → Contains (flat_map option_to_list (map f xs)) y → (x : A) × Contains xs x × (f x ≡ Some y)
Contains-options_from f [] y h = absurd (Contains-nil y h)
Contains-options_from f (x ∷ xs) y h = elim (Contains-append_cases (option_to_list (f x)) (flat_map option_to_list (map f xs)) y h) [
  | inl c ↦ (x, Contains-here x xs, option_has (f x) y c)
  | inr t ↦ let r = Contains-options_from f xs y t in (r.0, Contains-there r.0 x xs r.1, r.2)
]

-- what is found
pub found : {A : Type 0} (p : A → Bool) (xs : List A) (x : A) → find p xs ≡ Some x → Contains xs x × (p x ≡ true)
found p [] x is = absurd (none_some x is)
found p (y ∷ ys) x is = by (λ h. found p ys x h) (p y) refl is where
  by : (find p ys ≡ Some x → Contains ys x × (p x ≡ true)) → (b : Bool) → p y ≡ b → cond b (Some y) (find p ys) ≡ Some x → Contains (y ∷ ys) x × (p x ≡ true)
  by rest true passes h = let e = some_same y x h in (subst (Contains (y ∷ ys)) e (Contains-here y ys), subst (λ z. p z ≡ true) e passes)
  by rest false differs h = let r = rest h in (Contains-there x y ys r.0, r.1)

-- nothing passes
pub none_pass : {A : Type 0} (p : A → Bool) (xs : List A) → ((x : A) → Contains xs x → p x ≡ false) → filter p xs ≡ []
none_pass p [] none = refl
none_pass p (x ∷ xs) none = ap (λ b. cond b (x ∷ filter p xs) (filter p xs)) (none x (Contains-here x xs))
    ∙ none_pass p xs (λ y h. none y (Contains-there y x xs h))

-- a property of each element is one of an element
pub each_has : {A : Type 0} (P : A → Type 0) (xs : List A) (x : A) → AllByRecursion P xs → Contains xs x → P x
each_has P [] x each h = absurd (Contains-nil x h)
each_has P (y ∷ ys) x each h = elim (Contains-cases x y ys h) [
  | inl e ↦ subst P (sym e) each.0
  | inr t ↦ each_has P ys x each.1 t
]

-- a text that is among these
pub text_among : (x : List ℕ) (xs : List (List ℕ)) → list_any (bytes_eq x) xs ≡ true → Contains xs x
text_among x [] is = absurd (true≢false (sym is))
text_among x (y ∷ ys) is = by (λ h. text_among x ys h) (bytes_eq x y) refl is where
  by : (list_any (bytes_eq x) ys ≡ true → Contains ys x) → (b : Bool) → bytes_eq x y ≡ b → (b || list_any (bytes_eq x) ys) ≡ true → Contains (y ∷ ys) x
  by rest true same h = subst (Contains (y ∷ ys)) (sym ((bytes_eq-Decides x y).0 same)) (Contains-here y ys)
  by rest false differs h = Contains-there x y ys (rest h)
