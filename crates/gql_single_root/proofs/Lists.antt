-- Members of lists and of sets that keep their order.
use Rattle.std.specs.Prelude.{◌≡◌, ◌<◌, ◌+◌, ◌⊎◌, ℕ, List, [], ◌∷◌, ◌++◌, map, take, length, Bool, true, Contains, refl, if◌then◌else◌}
use Rattle.std.specs.Bool.{Decides}
use Rattle.std.specs.List.{list_any}
use Rattle.std.proofs.Common.{ap, sym, ◌∙◌, subst, inl, inr, get_or, append-nil}
use Rattle.std.proofs.lemmas.List.{take_more}
use Rattle.std.proofs.lemmas.List.Elements.{Contains-append_left, Contains-append_right, Contains-append_cases}
use Rattle.indexmap.specs.IndexSet.{insert_key, insert_all}
use Rattle.gql_facts.specs.ListMembers.{Contains-nil, Contains-here, Contains-there, Contains-cases, either}

pub one : {A : Type 0} (x y : A) → Contains (x ∷ []) y → y ≡ x
one x y h = elim (Contains-cases y x [] h) [ inl e ↦ e | inr t ↦ absurd (Contains-nil y t) ]

pub append_assoc : {A : Type 0} (a b c : List A) → (a ++ b) ++ c ≡ a ++ (b ++ c)
append_assoc [] b c = refl
append_assoc (x ∷ a) b c = ap (λ l. x ∷ l) (append_assoc a b c)

pub map_end : {A B : Type 0} (f : A → B) (xs : List A) (x : A) → map f (xs ++ x ∷ []) ≡ map f xs ++ f x ∷ []
map_end f [] x = refl
map_end f (y ∷ ys) x = ap (λ r. f y ∷ r) (map_end f ys x)

pub map_from : {A B : Type 0} (f : A → B) (xs : List A) (y : B) → Contains (map f xs) y → (x : A) × Contains xs x × (f x ≡ y)
map_from f [] y h = absurd (Contains-nil y h)
map_from f (x ∷ xs) y h = elim (Contains-cases y (f x) (map f xs) h) [
  | inl e ↦ (x, Contains-here x xs, sym e)
  | inr t ↦ let r = map_from f xs y t in (r.0, Contains-there r.0 x xs r.1, r.2)
]

-- one element more
pub taken : {A : Type 0} (xs : List A) (i : ℕ) (x : A) → i < length xs → get_or xs i x ≡ x → take (i + 1) xs ≡ take i xs ++ x ∷ []
taken xs i x within item = take_more xs i x within ∙ ap (λ y. take i xs ++ y ∷ []) item

pub taken_cases : {A : Type 0} (xs : List A) (i : ℕ) (x y : A) → i < length xs → get_or xs i x ≡ x → Contains (take (i + 1) xs) y
    → Contains (take i xs) y ⊎ (y ≡ x)
taken_cases xs i x y within item h = elim (Contains-append_cases (take i xs) (x ∷ []) y (subst (λ l. Contains l y) (taken xs i x within item) h)) [
  | inl a ↦ inl a
  | inr b ↦ inr (one x y b)
]

pub taken_old : {A : Type 0} (xs : List A) (i : ℕ) (x y : A) → i < length xs → get_or xs i x ≡ x → Contains (take i xs) y → Contains (take (i + 1) xs) y
taken_old xs i x y within item h = subst (λ l. Contains l y) (sym (taken xs i x within item)) (Contains-append_left (take i xs) (x ∷ []) y h)

pub taken_new : {A : Type 0} (xs : List A) (i : ℕ) (x : A) → i < length xs → get_or xs i x ≡ x → Contains (take (i + 1) xs) x
taken_new xs i x within item =
    subst (λ l. Contains l x) (sym (taken xs i x within item)) (Contains-append_right (take i xs) (x ∷ []) x (Contains-here x []))

-- ---- keys that are kept in their order

module _ {K : Type 0} (eq : K → K → Bool) where
  -- keeping a key puts it last, or changes nothing
  pub one_more : (o : List K) (k : K) → (more : List K) × (insert_key eq o k ≡ o ++ more)
  one_more o k = elim (either (list_any (eq k) o)) [
    | inl q ↦ ([], rw q (sym (append-nil o)))
    | inr q ↦ (k ∷ [], rw q refl)
  ]

module _ {K : Type 0} (eq : K → K → Bool) (same : (a b : K) → Decides (eq a b) (a ≡ b)) where
  pub any_is : (k : K) (ks : List K) → list_any (eq k) ks ≡ true → Contains ks k
  any_is k [] e = absurd (cc e)
  any_is k (x ∷ xs) e = elim (either (eq k x)) [
    | inl q ↦ subst (λ z. Contains (x ∷ xs) z) (sym ((same k x).0 q)) (Contains-here x xs)
    | inr q ↦ Contains-there k x xs (any_is k xs (sym (rw q refl) ∙ e))
  ]

  pub inserted_from : (o : List K) (k j : K) → Contains (insert_key eq o k) j → Contains o j ⊎ (j ≡ k)
  inserted_from o k j h = elim (either (list_any (eq k) o)) [
    | inl q ↦ inl (subst (λ b. Contains (if b then o else o ++ k ∷ []) j) q h)
    | inr q ↦ elim (Contains-append_cases o (k ∷ []) j (subst (λ b. Contains (if b then o else o ++ k ∷ []) j) q h)) [
      | inl a ↦ inl a
      | inr b ↦ inr (one k j b)
    ]
  ]

  pub inserted : (o : List K) (k : K) → Contains (insert_key eq o k) k
  inserted o k = elim (either (list_any (eq k) o)) [
    | inl q ↦ subst (λ b. Contains (if b then o else o ++ k ∷ []) k) (sym q) (any_is k o q)
    | inr q ↦ subst (λ b. Contains (if b then o else o ++ k ∷ []) k) (sym q) (Contains-append_right o (k ∷ []) k (Contains-here k []))
  ]

  pub inserted_old : (o : List K) (k j : K) → Contains o j → Contains (insert_key eq o k) j
  inserted_old o k j h = let m = one_more eq o k in subst (λ l. Contains l j) (sym m.1) (Contains-append_left o m.0 j h)

  pub all_from : (o ks : List K) (j : K) → Contains (insert_all eq o ks) j → Contains o j ⊎ Contains ks j
  all_from o [] j h = inl h
  all_from o (k ∷ ks) j h = elim (all_from (insert_key eq o k) ks j h) [
    | inl a ↦ elim (inserted_from o k j a) [ inl b ↦ inl b | inr e ↦ inr (subst (λ z. Contains (k ∷ ks) z) (sym e) (Contains-here k ks)) ]
    | inr b ↦ inr (Contains-there j k ks b)
  ]

  pub all_old : (o ks : List K) (j : K) → Contains o j → Contains (insert_all eq o ks) j
  all_old o [] j h = h
  all_old o (k ∷ ks) j h = all_old (insert_key eq o k) ks j (inserted_old o k j h)

  pub all_new : (o ks : List K) (j : K) → Contains ks j → Contains (insert_all eq o ks) j
  all_new o [] j h = absurd (Contains-nil j h)
  all_new o (k ∷ ks) j h = elim (Contains-cases j k ks h) [
    | inl e ↦ all_old (insert_key eq o k) ks j (subst (λ z. Contains (insert_key eq o k) z) (sym e) (inserted o k))
    | inr t ↦ all_new (insert_key eq o k) ks j t
  ]
