-- Two lists have the same elements, if one has in its parts what the other has in one part.
use Rattle.std.proofs.Common.{◌≡◌, ◌∙◌, ◌↔◌, ◌⊎◌, inl, inr, List, ◌++◌, Contains, ap, append_assoc}
use Rattle.std.proofs.lemmas.List.Elements.{Contains-append_left, Contains-append_right, Contains-append_cases}

module _ {X : Type 0} (x : X) where
  -- what is in a first part stays in a larger one
  grown : (xs ys zs : List X) → (Contains xs x → Contains ys x) → Contains (xs ++ zs) x → Contains (ys ++ zs) x
  grown xs ys zs g h = elim (Contains-append_cases xs zs x h) [
    | inl a ↦ Contains-append_left ys zs x (g a)
    | inr c ↦ Contains-append_right ys zs x c
  ]

  -- the same, if it may be elsewhere
  apart : (fs xs ys zs : List X) → (Contains xs x → Contains fs x ⊎ Contains ys x) → Contains (xs ++ zs) x → Contains fs x ⊎ Contains (ys ++ zs) x
  apart fs xs ys zs g h = elim (Contains-append_cases xs zs x h) [
    | inl a ↦ elim (g a) [ inl f ↦ inl f | inr b ↦ inr (Contains-append_left ys zs x b) ]
    | inr c ↦ inr (Contains-append_right ys zs x c)
  ]

  -- one part is in the two others
  pub regrouped : (fs is js ns ds ts rs : List X) → (Contains ns x ↔ (Contains fs x ⊎ Contains js x))
      → Contains (fs ++ ((((is ++ js) ++ ds) ++ ts) ++ rs)) x ↔ Contains ((((is ++ ns) ++ ds) ++ ts) ++ rs) x
  regrouped fs is js ns ds ts rs law = (
    λ h. elim (Contains-append_cases fs ((((is ++ js) ++ ds) ++ ts) ++ rs) x h) [
      | inl f ↦
          Contains-append_left (((is ++ ns) ++ ds) ++ ts) rs x (Contains-append_left ((is ++ ns) ++ ds) ts x
          (Contains-append_left (is ++ ns) ds x (Contains-append_right is ns x (law.1 (inl f)))))
      | inr o ↦
          grown (((is ++ js) ++ ds) ++ ts) (((is ++ ns) ++ ds) ++ ts) rs
          (grown ((is ++ js) ++ ds) ((is ++ ns) ++ ds) ts
          (grown (is ++ js) (is ++ ns) ds
          (λ a. elim (Contains-append_cases is js x a) [
            | inl i ↦ Contains-append_left is ns x i
            | inr j ↦ Contains-append_right is ns x (law.1 (inr j))
          ]))) o
    ],
    λ h. elim (apart fs (((is ++ ns) ++ ds) ++ ts) (((is ++ js) ++ ds) ++ ts) rs
        (apart fs ((is ++ ns) ++ ds) ((is ++ js) ++ ds) ts
        (apart fs (is ++ ns) (is ++ js) ds
        (λ a. elim (Contains-append_cases is ns x a) [
          | inl i ↦ inr (Contains-append_left is js x i)
          | inr n ↦ elim (law.0 n) [ inl f ↦ inl f | inr j ↦ inr (Contains-append_right is js x j) ]
        ]))) h) [
          | inl f ↦ Contains-append_left fs ((((is ++ js) ++ ds) ++ ts) ++ rs) x f
          | inr o ↦ Contains-append_right fs ((((is ++ js) ++ ds) ++ ts) ++ rs) x o
        ],
  )

-- five parts, one after the other
pub five_added : {X : Type 0} (old a b c d e p q r s t : List X) → a ≡ old ++ p → b ≡ a ++ q → c ≡ b ++ r → d ≡ c ++ s → e ≡ d ++ t
    → e ≡ old ++ (p ++ (q ++ (r ++ (s ++ t))))
five_added old a b c d e p q r s t one two three four five =
    five ∙ ap (λ xs. xs ++ t) (four ∙ ap (λ xs. xs ++ s) (three ∙ ap (λ xs. xs ++ r) (two ∙ ap (λ xs. xs ++ q) one)))
    ∙ append_assoc (((old ++ p) ++ q) ++ r) s t ∙ append_assoc ((old ++ p) ++ q) r (s ++ t) ∙ append_assoc (old ++ p) q (r ++ (s ++ t)) ∙ append_assoc old p (q ++ (r ++ (s ++ t)))
