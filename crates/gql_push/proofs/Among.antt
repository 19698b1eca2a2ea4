-- What is among the elements of a list.
use Rattle.std.proofs.Common.{ℕ, zero, suc, ◌+◌, ◌<◌, ◌≡◌, ◌∙◌, ◌⊎◌, inl, inr, List, [], ◌∷◌, ◌++◌, ◌||◌, Bool, true, false, cond, Option, Some, None, Contains, refl, sym, ap, subst, length, map, get_or, slice_get, arith}
use Rattle.std.specs.Prelude.{find}
use Rattle.std.specs.List.{cons_option, enumerate_from, filter, filter_map, list_any}
use Rattle.std.proofs.lemmas.Bool.{true≢false}

-- x is one of these
abbrev pub In : {A : Type 0} → A → List A → Type 0
In x [] = ⊥
In x (y ∷ ys) = (y ≡ x) ⊎ In x ys

at_place : {A : Type 0} (xs : List A) (k : ℕ) (x : A) → k < length xs → get_or xs k x ≡ x → In x xs
at_place [] k x within is = absurd (omega arith)
at_place (y ∷ ys) zero x within is = inl is
at_place (y ∷ ys) (suc k) x within is = inr (at_place ys k x (omega arith) is)

pub in_Contains : {A : Type 0} (xs : List A) (x : A) → Contains xs x → In x xs
in_Contains xs x h = at_place xs h.0 x h.1 h.2

pub Contains_in : {A : Type 0} (xs : List A) (x : A) → In x xs → Contains xs x
Contains_in [] x h = absurd h
Contains_in (y ∷ ys) x (inl is) = (0, omega arith, is)
Contains_in (y ∷ ys) x (inr h) =
    let there : Contains ys x = Contains_in ys x h in
    let within : there.0 < length ys = there.1 in
    (suc there.0, omega arith, there.2)

pub in_left : {A : Type 0} (xs ys : List A) (x : A) → In x xs → In x (xs ++ ys)
in_left [] ys x h = absurd h
in_left (z ∷ zs) ys x (inl is) = inl is
in_left (z ∷ zs) ys x (inr h) = inr (in_left zs ys x h)

pub in_right : {A : Type 0} (xs ys : List A) (x : A) → In x ys → In x (xs ++ ys)
in_right [] ys x h = h
in_right (z ∷ zs) ys x h = inr (in_right zs ys x h)

pub of_append : {A : Type 0} (xs ys : List A) (x : A) → In x (xs ++ ys) → In x xs ⊎ In x ys
of_append [] ys x h = inr h
of_append (z ∷ zs) ys x (inl is) = inl (inl is)
of_append (z ∷ zs) ys x (inr h) = elim (of_append zs ys x h) [ inl l ↦ inl (inr l) | inr r ↦ inr r ]

pub in_map : {A B : Type 0} (f : A → B) (xs : List A) (x : A) → In x xs → In (f x) (map f xs)
in_map f [] x h = absurd h
in_map f (y ∷ ys) x (inl is) = inl (ap f is)
in_map f (y ∷ ys) x (inr h) = inr (in_map f ys x h)

pub of_map : {A B : Type 0} (f : A → B) (xs : List A) (y : B) → In y (map f xs) → (x : A) × In x xs × (f x ≡ y)
of_map f [] y h = absurd h
of_map f (x ∷ xs) y (inl is) = (x, inl refl, is)
of_map {A} {B} f (x ∷ xs) y (inr h) =
    let there : (z : A) × In z xs × (f z ≡ y) = of_map f xs y h in
    (there.0, inr there.1, there.2)

or_there : {A : Type 0} (x y : A) (ys : List A) (b : Bool) → In x ys → In x (cond b (y ∷ ys) ys)
or_there x y ys true h = inr h
or_there x y ys false h = h

pub in_filter : {A : Type 0} (p : A → Bool) (xs : List A) (x : A) → p x ≡ true → In x xs → In x (filter p xs)
in_filter p [] x passes h = absurd h
in_filter p (y ∷ ys) x passes (inl is) =
    subst (λ b. In x (cond b (y ∷ filter p ys) (filter p ys))) (sym (ap p is ∙ passes)) (inl is)
in_filter p (y ∷ ys) x passes (inr h) = or_there x y (filter p ys) (p y) (in_filter p ys x passes h)

first_or_rest : {A : Type 0} (p : A → Bool) (y : A) (ys : List A) (x : A) (b : Bool) → p y ≡ b → In x (cond b (y ∷ filter p ys) (filter p ys)) → (In x (filter p ys) → In x ys × (p x ≡ true)) → In x (y ∷ ys) × (p x ≡ true)
first_or_rest p y ys x true is (inl same) rest = (inl same, ap p (sym same) ∙ is)
first_or_rest p y ys x true is (inr h) rest = let there : In x ys × (p x ≡ true) = rest h in (inr there.0, there.1)
first_or_rest p y ys x false is h rest = let there : In x ys × (p x ≡ true) = rest h in (inr there.0, there.1)

pub of_filter : {A : Type 0} (p : A → Bool) (xs : List A) (x : A) → In x (filter p xs) → In x xs × (p x ≡ true)
of_filter p [] x h = absurd h
of_filter p (y ∷ ys) x h = first_or_rest p y ys x (p y) refl h (λ g. of_filter p ys x g)

-- none is left where none passes
pub filter_none : {A : Type 0} (p : A → Bool) (xs : List A) → ((x : A) → In x xs → p x ≡ false) → filter p xs ≡ []
filter_none p [] none = refl
filter_none p (y ∷ ys) none =
    ap (λ b. cond b (y ∷ filter p ys) (filter p ys)) (none y (inl refl)) ∙ filter_none p ys (λ x h. none x (inr h))

-- all are left where all pass
pub filter_all : {A : Type 0} (p : A → Bool) (xs : List A) → ((x : A) → In x xs → p x ≡ true) → filter p xs ≡ xs
filter_all p [] all = refl
filter_all p (y ∷ ys) all =
    ap (λ b. cond b (y ∷ filter p ys) (filter p ys)) (all y (inl refl)) ∙ ap (λ zs. y ∷ zs) (filter_all p ys (λ x h. all x (inr h)))

-- an element has a place
pub place_of : {A : Type 0} (xs : List A) (x : A) → In x xs → (k : ℕ) × (slice_get xs k ≡ Some x)
place_of [] x h = absurd h
place_of (y ∷ ys) x (inl is) = (0, ap Some is)
place_of {A} (y ∷ ys) x (inr h) =
    let there : (k : ℕ) × (slice_get ys k ≡ Some x) = place_of ys x h in
    (suc there.0, there.1)

pub in_slice_get : {A : Type 0} (xs : List A) (k : ℕ) (x : A) → slice_get xs k ≡ Some x → In x xs
in_slice_get [] k x is = cc
in_slice_get (y ∷ ys) zero x is = inl (cc)
in_slice_get (y ∷ ys) (suc k) x is = inr (in_slice_get ys k x is)

pub in_enumerate : {A : Type 0} (n m : ℕ) (xs : List A) (k : ℕ) (x : A) → n + k ≡ m → slice_get xs k ≡ Some x → In (m, x) (enumerate_from n xs)
in_enumerate n m [] k x same is = cc
in_enumerate n m (y ∷ ys) zero x same is =
    let number : n ≡ m = omega arith in
    let one : y ≡ x = cc in
    inl (λ i. (number i, one i))
in_enumerate n m (y ∷ ys) (suc k) x same is = inr (in_enumerate (n + 1) m ys k x (omega arith) is)

pub of_enumerate : {A : Type 0} (n : ℕ) (xs : List A) (p : ℕ × A) → In p (enumerate_from n xs) → (k : ℕ) × (p.0 ≡ n + k) × (slice_get xs k ≡ Some p.1)
of_enumerate n [] p h = absurd h
of_enumerate n (y ∷ ys) p (inl is) =
    let number : n ≡ p.0 = ap (λ q. q.0) is in
    (0, omega arith, ap (λ q. Some q.1) is)
of_enumerate {A} n (y ∷ ys) p (inr h) =
    let there : (k : ℕ) × (p.0 ≡ n + 1 + k) × (slice_get ys k ≡ Some p.1) = of_enumerate (n + 1) ys p h in
    let number : p.0 ≡ n + 1 + there.0 = there.1 in
    (suc there.0, omega arith, there.2)

or_before : {A : Type 0} (x : A) (o : Option A) (ys : List A) → In x ys → In x (cons_option o ys)
or_before x None ys h = h
or_before x (Some y) ys h = inr h

pub in_filter_map : {A B : Type 0} (f : A → Option B) (xs : List A) (x : A) (y : B) → In x xs → f x ≡ Some y → In y (filter_map f xs)
in_filter_map f [] x y h is = absurd h
in_filter_map f (z ∷ zs) x y (inl same) is =
    subst (λ o. In y (cons_option o (filter_map f zs))) (sym (ap f same ∙ is)) (inl refl)
in_filter_map f (z ∷ zs) x y (inr h) is = or_before y (f z) (filter_map f zs) (in_filter_map f zs x y h is)

option_or_rest : {A B : Type 0} (f : A → Option B) (z : A) (zs : List A) (y : B) (o : Option B) → f z ≡ o → In y (cons_option o (filter_map f zs)) → (In y (filter_map f zs) → (x : A) × In x zs × (f x ≡ Some y)) → (x : A) × In x (z ∷ zs) × (f x ≡ Some y)
option_or_rest {A} f z zs y None is h rest = let there : (x : A) × In x zs × (f x ≡ Some y) = rest h in (there.0, inr there.1, there.2)
option_or_rest f z zs y (Some w) is (inl same) rest = (z, inl refl, is ∙ ap Some same)
option_or_rest {A} f z zs y (Some w) is (inr h) rest = let there : (x : A) × In x zs × (f x ≡ Some y) = rest h in (there.0, inr there.1, there.2)

pub of_filter_map : {A B : Type 0} (f : A → Option B) (xs : List A) (y : B) → In y (filter_map f xs) → (x : A) × In x xs × (f x ≡ Some y)
of_filter_map f [] y h = absurd h
of_filter_map f (z ∷ zs) y h = option_or_rest f z zs y (f z) refl h (λ g. of_filter_map f zs y g)

pub any_in : {A : Type 0} (p : A → Bool) (xs : List A) (x : A) → In x xs → p x ≡ true → list_any p xs ≡ true
any_in p [] x h passes = absurd h
any_in p (y ∷ ys) x (inl is) passes = ap (λ b. b || list_any p ys) (ap p is ∙ passes)
any_in p (y ∷ ys) x (inr h) passes = either (p y) (list_any p ys) (any_in p ys x h passes)
  where
    either : (b c : Bool) → c ≡ true → b || c ≡ true
    either true c is = refl
    either false c is = is

one_or_rest : {A : Type 0} (p : A → Bool) (y : A) (ys : List A) (b : Bool) → p y ≡ b → b || list_any p ys ≡ true → (list_any p ys ≡ true → (x : A) × In x ys × (p x ≡ true)) → (x : A) × In x (y ∷ ys) × (p x ≡ true)
one_or_rest p y ys true is some rest = (y, inl refl, is)
one_or_rest {A} p y ys false is some rest = let there : (x : A) × In x ys × (p x ≡ true) = rest some in (there.0, inr there.1, there.2)

pub of_any : {A : Type 0} (p : A → Bool) (xs : List A) → list_any p xs ≡ true → (x : A) × In x xs × (p x ≡ true)
of_any p [] some = absurd (true≢false (sym some))
of_any p (y ∷ ys) some = one_or_rest p y ys (p y) refl some (λ h. of_any p ys h)

first_found : {A : Type 0} (p : A → Bool) (y : A) (ys : List A) (x : A) (b : Bool) → p y ≡ b → cond b (Some y) (find p ys) ≡ Some x → (find p ys ≡ Some x → In x ys × (p x ≡ true)) → In x (y ∷ ys) × (p x ≡ true)
first_found p y ys x true is found rest = let same : y ≡ x = cc in (inl same, ap p (sym same) ∙ is)
first_found p y ys x false is found rest = let there : In x ys × (p x ≡ true) = rest found in (inr there.0, there.1)

-- what is found is there, and passes
pub of_find : {A : Type 0} (p : A → Bool) (xs : List A) (x : A) → find p xs ≡ Some x → In x xs × (p x ≡ true)
of_find p [] x found = cc
of_find p (y ∷ ys) x found = first_found p y ys x (p y) refl found (λ h. of_find p ys x h)

-- one is found where one passes
pub found : {A : Type 0} (p : A → Bool) (xs : List A) (x : A) → In x xs → p x ≡ true → (y : A) × (find p xs ≡ Some y)
found p [] x h passes = absurd h
found p (y ∷ ys) x (inl is) passes = (y, ap (λ b. cond b (Some y) (find p ys)) (ap p is ∙ passes))
found {A} p (y ∷ ys) x (inr h) passes = first (p y) (found p ys x h passes)
  where
    first : (b : Bool) → ((z : A) × (find p ys ≡ Some z)) → (z : A) × (cond b (Some y) (find p ys) ≡ Some z)
    first true there = (y, refl)
    first false there = there
