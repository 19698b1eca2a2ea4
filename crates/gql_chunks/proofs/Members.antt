-- Members of lists, lists in order, and orders.
use Rattle.std.proofs.Common.{◌≡◌, ◌⊎◌, inl, inr, ℕ, zero, suc, ◌<◌, ◌≤◌, List, [], ◌∷◌, ◌++◌, Bool, true, false, cond, filter, get_or, refl, ap, sym, subst, ◌∙◌, Contains, arith}
use Rattle.std.specs.Cmp.{IsTotalOrder}
use Rattle.std.specs.List.{AllPairs}
use Rattle.std.specs.Ordering.{is_gt, is_lt, ordering_reverse}
use Rattle.std.specs.declared.cmp.Ordering.{Ordering}
use Rattle.std.specs.declared.cmp.Ordering.TheVariants.{Less, Equal, Greater}
use Rattle.std.proofs.lemmas.Cmp.{tied_itself}
use Rattle.std.proofs.lemmas.List.Elements.{All-append, Contains-append_left, Contains-append_right, Contains-get_or}
use Rattle.std.proofs.lemmas.List.Kept.{AllPairs-cons}

-- ---- members

pub contains_none : {A : Type 0} (x : A) → Contains [] x → ⊥
contains_none x h = omega (arith, h.1)

pub contains_here : {A : Type 0} (x : A) (xs : List A) → Contains (x ∷ xs) x
contains_here x xs = (0, omega arith, refl)

pub contains_there : {A : Type 0} (x y : A) (xs : List A) → Contains xs x → Contains (y ∷ xs) x
contains_there x y xs h = (suc h.0, omega (arith, h.1), h.2)

pub contains_cases : {A : Type 0} (x y : A) (xs : List A) → Contains (y ∷ xs) x → (x ≡ y) ⊎ Contains xs x
contains_cases x y xs (zero, lt, e) = inl (sym e)
contains_cases x y xs (suc k, lt, e) = inr (k, omega arith, e)

filter_by : {A : Type 0} (b : Bool) (p : A → Bool) (y x : A) (fs ys : List A) → p y ≡ b → (Contains fs x → Contains ys x × (p x ≡ true)) → Contains (cond b (y ∷ fs) fs) x → Contains (y ∷ ys) x × (p x ≡ true)
filter_by true p y x fs ys t h c = elim (contains_cases x y fs c) [
  | inl e ↦ (subst (λ z. Contains (y ∷ ys) z) (sym e) (contains_here y ys), subst (λ z. p z ≡ true) (sym e) t)
  | inr r ↦ let k = h r in (contains_there x y ys k.0, k.1)
]
filter_by false p y x fs ys t h c = let k = h c in (contains_there x y ys k.0, k.1)

pub filter_from : {A : Type 0} (p : A → Bool) (xs : List A) (x : A) → Contains (filter p xs) x → Contains xs x × (p x ≡ true)
filter_from p [] x c = absurd (contains_none x c)
filter_from p (y ∷ ys) x c = filter_by (p y) p y x (filter p ys) ys refl (filter_from p ys x) c

filter_to : {A : Type 0} (b : Bool) (y x : A) (fs : List A) → (x ≡ y → b ≡ true) → ((x ≡ y) ⊎ Contains fs x) → Contains (cond b (y ∷ fs) fs) x
filter_to true y x fs t (inl e) = subst (λ z. Contains (y ∷ fs) z) (sym e) (contains_here y fs)
filter_to true y x fs t (inr c) = contains_there x y fs c
filter_to false y x fs t (inl e) = absurd (let b : false ≡ true = t e in cc)
filter_to false y x fs t (inr c) = c

pub filter_has : {A : Type 0} (p : A → Bool) (xs : List A) (x : A) → p x ≡ true → Contains xs x → Contains (filter p xs) x
filter_has p [] x t c = absurd (contains_none x c)
filter_has p (y ∷ ys) x t c = filter_to (p y) y x (filter p ys) (λ e. subst (λ z. p z ≡ true) e t) (elim (contains_cases x y ys c) [ inl e ↦ inl e | inr r ↦ inr (filter_has p ys x t r) ])

all_by : {A : Type 0} (b : Bool) (x : A) (fs xs : List A) → b ≡ true → fs ≡ xs → cond b (x ∷ fs) fs ≡ x ∷ xs
all_by true x fs xs t e = ap (λ zs. x ∷ zs) e
all_by false x fs xs t e = absurd (let b : false ≡ true = t in cc)

none_by : {A : Type 0} (b : Bool) (x : A) (fs : List A) → b ≡ false → fs ≡ [] → cond b (x ∷ fs) fs ≡ []
none_by true x fs t e = absurd (let b : true ≡ false = t in cc)
none_by false x fs t e = e

pub filter_all : {A : Type 0} (p : A → Bool) (xs : List A) → ((x : A) → Contains xs x → p x ≡ true) → filter p xs ≡ xs
filter_all p [] h = refl
filter_all p (x ∷ xs) h = all_by (p x) x (filter p xs) xs (h x (contains_here x xs)) (filter_all p xs (λ y c. h y (contains_there y x xs c)))

pub filter_none : {A : Type 0} (p : A → Bool) (xs : List A) → ((x : A) → Contains xs x → p x ≡ false) → filter p xs ≡ []
filter_none p [] h = refl
filter_none p (x ∷ xs) h = none_by (p x) x (filter p xs) (h x (contains_here x xs)) (filter_none p xs (λ y c. h y (contains_there y x xs c)))

-- ---- lists in order

pub pairs_tail : {X : Type 0} (R : X → X → Type 0) (x : X) (xs : List X) → AllPairs R (x ∷ xs) → AllPairs R xs
pairs_tail R x xs all i j d lt within = all (suc i) (suc j) d (omega (arith, lt)) (omega (arith, within))

pub pairs_head : {X : Type 0} (R : X → X → Type 0) (x : X) (xs : List X) → AllPairs R (x ∷ xs) → (y : X) → Contains xs y → R x y
pairs_head R x xs all y c = subst (λ z. R x z) c.2 (all 0 (suc c.0) y (omega arith) (omega (arith, c.1)))

pub pairs_none : {X : Type 0} (R : X → X → Type 0) → AllPairs R []
pairs_none R i j d lt within = absurd (omega (arith, lt, within))

pub pairs_one : {X : Type 0} (R : X → X → Type 0) (x : X) → AllPairs R (x ∷ [])
pairs_one R x i j d lt within = absurd (omega (arith, lt, within))

pub pairs_append : {X : Type 0} (R : X → X → Type 0) (xs ys : List X) → AllPairs R xs → AllPairs R ys
    → ((x y : X) → Contains xs x → Contains ys y → R x y) → AllPairs R (xs ++ ys)
pairs_append R [] ys first second across = second
pairs_append R (x ∷ xs) ys first second across = AllPairs-cons R x (xs ++ ys)
    (All-append (R x) xs ys (λ k d l. pairs_head R x xs first (get_or xs k d) (Contains-get_or xs k d l)) (λ k d l. across x (get_or ys k d) (contains_here x xs) (Contains-get_or ys k d l)))
    (pairs_append R xs ys (pairs_tail R x xs first) second (λ y z c. across y z (contains_there y x xs c)))

-- a pair whose first is in the first of two lists, and whose second is in the second
pub pairs_across : {X : Type 0} (R : X → X → Type 0) (xs ys : List X) → AllPairs R (xs ++ ys) → (x y : X) → Contains xs x → Contains ys y → R x y
pairs_across R [] ys all x y c k = absurd (contains_none x c)
pairs_across R (z ∷ xs) ys all x y c k = elim (contains_cases x z xs c) [
  | inl e ↦ subst (λ w. R w y) (sym e) (pairs_head R z (xs ++ ys) all y (Contains-append_right xs ys y k))
  | inr r ↦ pairs_across R xs ys (pairs_tail R z (xs ++ ys) all) x y r k
]

pub pairs_first : {X : Type 0} (R : X → X → Type 0) (xs ys : List X) → AllPairs R (xs ++ ys) → AllPairs R xs
pairs_first R [] ys all = pairs_none R
pairs_first R (x ∷ xs) ys all = AllPairs-cons R x xs (λ k d l. pairs_head R x (xs ++ ys) all (get_or xs k d) (Contains-append_left xs ys (get_or xs k d) (Contains-get_or xs k d l)))
    (pairs_first R xs ys (pairs_tail R x (xs ++ ys) all))

pub pairs_second : {X : Type 0} (R : X → X → Type 0) (xs ys : List X) → AllPairs R (xs ++ ys) → AllPairs R ys
pairs_second R [] ys all = all
pairs_second R (x ∷ xs) ys all = pairs_second R xs ys (pairs_tail R x (xs ++ ys) all)

same_suc : (i j : ℕ) → (i ≡ j) ⊎ (i < j) → (suc i ≡ suc j) ⊎ (suc i < suc j)
same_suc i j (inl e) = inl (ap suc e)
same_suc i j (inr m) = inr (omega (arith, m))

pub same_or_less : (i j : ℕ) → i ≤ j → (i ≡ j) ⊎ (i < j)
same_or_less zero zero l = inl refl
same_or_less zero (suc j) l = inr (omega arith)
same_or_less (suc i) zero l = absurd (omega (arith, l))
same_or_less (suc i) (suc j) l = same_suc i j (same_or_less i j (omega (arith, l)))

-- ---- orders

pub less_is : (o : Ordering) → is_lt o ≡ true → o ≡ Less
less_is Less e = refl
less_is Equal e = absurd (let t : false ≡ true = e in cc)
less_is Greater e = absurd (let t : false ≡ true = e in cc)

pub greater_is : (o : Ordering) → is_gt o ≡ true → o ≡ Greater
greater_is Less e = absurd (let t : false ≡ true = e in cc)
greater_is Equal e = absurd (let t : false ≡ true = e in cc)
greater_is Greater e = refl

pub by_order : (o : Ordering) → (o ≡ Less) ⊎ ((o ≡ Equal) ⊎ (o ≡ Greater))
by_order Less = inl refl
by_order Equal = inr (inl refl)
by_order Greater = inr (inr refl)

pub less_not_equal : (o : Ordering) → o ≡ Less → o ≡ Equal → ⊥
less_not_equal o a b = let t : Less ≡ Equal = sym a ∙ b in cc t

pub greater_not_equal : (o : Ordering) → o ≡ Greater → o ≡ Equal → ⊥
greater_not_equal o a b = let t : Greater ≡ Equal = sym a ∙ b in cc t

module _ {K : Type 0} (order : K → K → Ordering) (total : IsTotalOrder order) where
  pub turned : (a b : K) → order a b ≡ Greater → order b a ≡ Less
  turned a b e = total.antisymm b a ∙ ap ordering_reverse e

  pub turned_less : (a b : K) → order a b ≡ Less → order b a ≡ Greater
  turned_less a b e = total.antisymm b a ∙ ap ordering_reverse e

  pub turned_equal : (a b : K) → order a b ≡ Equal → order b a ≡ Equal
  turned_equal a b e = total.antisymm b a ∙ ap ordering_reverse e

  pub not_self : (a b : K) → order a b ≡ Less → a ≡ b → ⊥
  not_self a b e same = less_not_equal (order a a) (subst (λ c. order a c ≡ Less) (sym same) e) (tied_itself total a)

  -- what is before something that is not before a third is before that
  less_by : (a b c : K) (o : Ordering) → order b c ≡ o → order a b ≡ Less → (o ≡ Greater → ⊥) → order a c ≡ Less
  less_by a b c Less e lt n = total.trans a b c lt e
  less_by a b c Equal e lt n = total.antisymm a c ∙ ap ordering_reverse (sym (total.congr b c a e) ∙ turned_less a b lt)
  less_by a b c Greater e lt n = absurd (n refl)

  pub less_then : (a b c : K) → order a b ≡ Less → (order c b ≡ Less → ⊥) → order a c ≡ Less
  less_then a b c lt n = less_by a b c (order b c) refl lt (λ e. n (turned b c e))
