-- Members of what a walk over a list gives.
use Rattle.std.proofs.Common.{◌≡◌, ◌↔◌, ◌++◌, zero, suc, ◌⊎◌, List, [], ◌∷◌, flat_map, sym, refl, subst, inl, inr, arith}
use Rattle.std.specs.Prelude.{Contains}
use Rattle.std.proofs.lemmas.List.Elements.{Contains-append_left, Contains-append_right, Contains-append_cases}

pub nothing_in : {A : Type 0} (x : A) → Contains [] x → ⊥
nothing_in x h = omega (arith, h.1)

pub first_of_all : {A : Type 0} (x : A) (xs : List A) → Contains (x ∷ xs) x
first_of_all x xs = (0, omega arith, refl)

pub one_more : {A : Type 0} (x y : A) (xs : List A) → Contains xs x → Contains (y ∷ xs) x
one_more x y xs h = (suc h.0, omega (arith, h.1), h.2)

pub either_of : {A : Type 0} (x y : A) (xs : List A) → Contains (y ∷ xs) x → (x ≡ y) ⊎ Contains xs x
either_of x y xs (zero, lt, e) = inl (sym e)
either_of x y xs (suc k, lt, e) = inr (k, omega arith, e)

-- what a list is made of
pub Contains-flat_map : {X A : Type 0} (f : X → List A) (xs : List X) (x : X) (a : A) → Contains xs x → Contains (f x) a → Contains (flat_map f xs) a
Contains-flat_map f [] x a h g = absurd (nothing_in x h)
Contains-flat_map f (y ∷ ys) x a h g = elim (either_of x y ys h) [
  | inl e ↦ Contains-append_left (f y) (flat_map f ys) a (subst (λ z. Contains (f z) a) e g)
  | inr t ↦ Contains-append_right (f y) (flat_map f ys) a (Contains-flat_map f ys x a t g)
]

pub Contains-flat_map_from : {X A : Type 0} (f : X → List A) (xs : List X) (a : A) → Contains (flat_map f xs) a → (x : X) × Contains xs x × Contains (f x) a
Contains-flat_map_from f [] a h = absurd (nothing_in a h)
Contains-flat_map_from f (y ∷ ys) a h = elim (Contains-append_cases (f y) (flat_map f ys) a h) [
  | inl g ↦ (y, first_of_all y ys, g)
  | inr t ↦ let r = Contains-flat_map_from f ys a t in (r.0, one_more r.0 y ys r.1, r.2)
]

-- the faults that the code adds for each of some things are those of a relation
pub added : {X A : Type 0} (f : X → List A) (xs : List X) (old new : List A) (P : A → Type 0) → new ≡ old ++ flat_map f xs
    → ((x : X) (a : A) → Contains xs x → Contains (f x) a → P a)
    → ((a : A) → P a → (x : X) × Contains xs x × Contains (f x) a)
    → (a : A) → Contains new a ↔ (Contains old a ⊎ P a)
added f xs old new P is sound complete a = (
  λ h. elim (Contains-append_cases old (flat_map f xs) a (subst (λ ys. Contains ys a) is h)) [
    | inl o ↦ inl o
    | inr g ↦ let r = Contains-flat_map_from f xs a g in inr (sound r.0 a r.1 r.2)
  ],
  λ h. subst (λ ys. Contains ys a) (sym is) (elim h [
    | inl o ↦ Contains-append_left old (flat_map f xs) a o
    | inr p ↦ let r = complete a p in Contains-append_right old (flat_map f xs) a (Contains-flat_map f xs r.0 a r.1 r.2)
  ]),
)
