-- The first of each, found one after the other.
use Rattle.std.proofs.Common.{◌≡◌, ◌⊎◌, List, [], ◌∷◌, ◌++◌, Bool, true, false, not, ◌||◌, filter, if◌then◌else◌, refl, sym, ap, ◌∙◌, inl, inr, append_assoc, append-nil}
use Rattle.std.proofs.lemmas.List.Folds.{list_any-append}
use Rattle.std.specs.Cmp.{IsEquivalence}
use Rattle.std.specs.List.{list_any}
use Rattle.indexmap.specs.IndexSet.{insert_key, insert_all}
use Rattle.gql_collect.specs.Groups.{firsts}

pub either : (b : Bool) → (b ≡ true) ⊎ (b ≡ false)
either true = inl refl
either false = inr refl

or_false : (b : Bool) → (b || false) ≡ b
or_false true = refl
or_false false = refl

-- a filter whose tests are the same
pub filter_same : {A : Type 0} (p q : A → Bool) (xs : List A) → ((x : A) → p x ≡ q x) → filter p xs ≡ filter q xs
filter_same p q [] e = refl
filter_same p q (x ∷ xs) e = elim (either (p x)) [
  | inl h ↦ rw (h, sym (e x) ∙ h) (ap (λ r. x ∷ r) (filter_same p q xs e))
  | inr h ↦ rw (h, sym (e x) ∙ h) (filter_same p q xs e)
]

-- two filters, of which the first drops nothing that the second would keep
pub filter_within : {A : Type 0} (p q : A → Bool) (xs : List A) → ((x : A) → q x ≡ false → p x ≡ false)
    → filter p (filter q xs) ≡ filter p xs
filter_within p q [] e = refl
filter_within p q (x ∷ xs) e = elim (either (q x)) [
  | inl h ↦ rw h (elim (either (p x)) [
    | inl k ↦ rw k (ap (λ r. x ∷ r) (filter_within p q xs e))
    | inr k ↦ rw k (filter_within p q xs e)
  ])
  | inr h ↦ rw (h, e x h) (filter_within p q xs e)
]

pub filter_both : {A : Type 0} (p q : A → Bool) (r : A → Bool) (xs : List A)
    → ((x : A) → q x ≡ true → r x ≡ p x) → ((x : A) → q x ≡ false → r x ≡ false)
    → filter r xs ≡ filter p (filter q xs)
filter_both p q r [] kept dropped = refl
filter_both p q r (x ∷ xs) kept dropped = elim (either (q x)) [
  | inl h ↦ rw h (elim (either (p x)) [
    | inl k ↦ rw (k, kept x h ∙ k) (ap (λ l. x ∷ l) (filter_both p q r xs kept dropped))
    | inr k ↦ rw (k, kept x h ∙ k) (filter_both p q r xs kept dropped)
  ])
  | inr h ↦ rw (h, dropped x h) (filter_both p q r xs kept dropped)
]

module _ {A : Type 0} (same : A → A → Bool) (laws : IsEquivalence same) where
  abbrev pub has : List A → A → Bool
  has xs x = list_any (same x) xs

  abbrev pub new : List A → A → Bool
  new xs x = not (has xs x)

  pub has_alike : (x y : A) (xs : List A) → same y x ≡ true → has xs y ≡ has xs x
  has_alike x y [] e = refl
  has_alike x y (z ∷ zs) e = ap (λ b. b || has zs y) (laws.congr y x z e) ∙ ap (λ b. same x z || b) (has_alike x y zs e)

  -- when x is there already
  old_one : (out : List A) (x : A) (xs : List A) → has out x ≡ true
      → filter (new out) (x ∷ filter (λ y. not (same y x)) xs) ≡ filter (new out) xs
  old_one out x xs h = rw h (filter_within (new out) (λ y. not (same y x)) xs dropped) where
    not_false : (b : Bool) → not b ≡ false → b ≡ true
    not_false true e = refl
    not_false false e = sym e

    dropped : (y : A) → not (same y x) ≡ false → new out y ≡ false
    dropped y e = ap not (has_alike x y out (not_false (same y x) e) ∙ h)

  -- when x is new
  new_one : (out : List A) (x : A) (xs : List A) → has out x ≡ false
      → filter (new out) (x ∷ filter (λ y. not (same y x)) xs) ≡ x ∷ filter (new (out ++ x ∷ [])) xs
  new_one out x xs h = rw h (ap (λ l. x ∷ l) (sym (filter_both (new out) (λ y. not (same y x)) (new (out ++ x ∷ [])) xs kept dropped))) where
    split : (y : A) → has (out ++ x ∷ []) y ≡ (has out y || same y x)
    split y = list_any-append (same y) out (x ∷ []) ∙ ap (λ b. has out y || b) (or_false (same y x))

    not_true : (b : Bool) → not b ≡ true → b ≡ false
    not_true true e = sym e
    not_true false e = refl

    not_false : (b : Bool) → not b ≡ false → b ≡ true
    not_false true e = refl
    not_false false e = sym e

    or_true : (b : Bool) → (b || true) ≡ true
    or_true true = refl
    or_true false = refl

    kept : (y : A) → not (same y x) ≡ true → new (out ++ x ∷ []) y ≡ new out y
    kept y e = ap not (split y ∙ ap (λ b. has out y || b) (not_true (same y x) e) ∙ or_false (has out y))

    dropped : (y : A) → not (same y x) ≡ false → new (out ++ x ∷ []) y ≡ false
    dropped y e = ap not (split y ∙ ap (λ b. has out y || b) (not_false (same y x) e) ∙ or_true (has out y))

  -- what is there, and the first of each that is new
  pub all_firsts : (out xs : List A) → insert_all same out xs ≡ out ++ filter (new out) (firsts same xs)
  all_firsts out [] = sym (append-nil out)
  all_firsts out (x ∷ xs) = elim (either (has out x)) [
    | inl h ↦ ap (λ b. insert_all same (if b then out else out ++ x ∷ []) xs) h
        ∙ all_firsts out xs ∙ ap (λ l. out ++ l) (sym (old_one out x (firsts same xs) h))
    | inr h ↦ ap (λ b. insert_all same (if b then out else out ++ x ∷ []) xs) h
        ∙ all_firsts (out ++ x ∷ []) xs
        ∙ append_assoc out (x ∷ []) (filter (new (out ++ x ∷ [])) (firsts same xs))
        ∙ ap (λ l. out ++ l) (sym (new_one out x (firsts same xs) h))
  ]

  all_new : (xs : List A) → filter (new []) xs ≡ xs
  all_new [] = refl
  all_new (x ∷ xs) = ap (λ l. x ∷ l) (all_new xs)

  pub inserted : (xs : List A) → insert_all same [] xs ≡ firsts same xs
  inserted xs = all_firsts [] xs ∙ all_new (firsts same xs)

  pub insert_all-append : (out xs ys : List A) → insert_all same out (xs ++ ys) ≡ insert_all same (insert_all same out xs) ys
  insert_all-append out [] ys = refl
  insert_all-append out (x ∷ xs) ys = insert_all-append (insert_key same out x) xs ys

  -- one more
  pub firsts_more : (xs : List A) (x : A) → firsts same (xs ++ x ∷ []) ≡ insert_key same (firsts same xs) x
  firsts_more xs x = sym (inserted (xs ++ x ∷ [])) ∙ insert_all-append [] xs (x ∷ [])
      ∙ ap (λ l. insert_key same l x) (inserted xs)
