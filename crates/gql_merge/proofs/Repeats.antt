-- Lists that have the same elements.
use Rattle.std.proofs.Common.{◌≡◌, ◌<◌, ◌+◌, ◌∷◌, ◌++◌, ◌∙◌, ◌↔◌, [], ℕ, List, Contains, ap, get_or, inl, inr, length, subst, sym, take}
use Rattle.std.proofs.lemmas.List.{take_more}
use Rattle.std.proofs.lemmas.List.Elements.{Contains-append_cases, Contains-append_left, Contains-append_right}
use Rattle.gql_clashes.specs.declared.sets.Mode.TheVariants.{Merge}
use Rattle.gql_clashes.specs.declared.sets.Pair.{Pair}
use Rattle.gql_facts.specs.ListMembers.{Contains-cases, Contains-nil}

-- what stands where a list has no pair
abbrev pub no_pair : Pair
no_pair = record { first = 0; second = 0; mode = Merge }

-- the same elements
abbrev pub AreSame : {X : Type 0} → List X → List X → Type 0
AreSame {X} xs ys = (p : X) → Contains xs p ↔ Contains ys p

module _ {X : Type 0} where
  more : (ps : List X) (i : ℕ) (x : X) → i < length ps → x ≡ get_or ps i x → take (i + 1) ps ≡ take i ps ++ x ∷ []
  more ps i x lt is = take_more ps i x lt ∙ ap (λ y. take i ps ++ y ∷ []) (sym is)

  at_end : (xs ys : List X) (x : X) → AreSame xs ys → AreSame (xs ++ x ∷ []) (ys ++ x ∷ [])
  at_end xs ys x s p = (
    λ h. elim (Contains-append_cases xs (x ∷ []) p h) [
      | inl a ↦ Contains-append_left ys (x ∷ []) p ((s p).0 a)
      | inr b ↦ Contains-append_right ys (x ∷ []) p b
    ],
    λ h. elim (Contains-append_cases ys (x ∷ []) p h) [
      | inl a ↦ Contains-append_left xs (x ∷ []) p ((s p).1 a)
      | inr b ↦ Contains-append_right xs (x ∷ []) p b
    ],
  )

  there : (xs ys : List X) (x : X) → AreSame xs ys → Contains xs x → AreSame xs (ys ++ x ∷ [])
  there xs ys x s m p = (
    λ h. Contains-append_left ys (x ∷ []) p ((s p).0 h),
    λ h. elim (Contains-append_cases ys (x ∷ []) p h) [
      | inl a ↦ (s p).1 a
      | inr b ↦ elim (Contains-cases p x [] b) [
        | inl e ↦ subst (λ y. Contains xs y) (sym e) m
        | inr n ↦ absurd (Contains-nil p n)
      ]
    ],
  )

  -- an element that is there, and one that is added
  pub is_there : (xs : List X) (x : X) → Contains xs x → AreSame xs (xs ++ x ∷ [])
  is_there xs x m = there xs xs x (λ p. (λ h. h, λ h. h)) m

  pub is_added : (xs xs' : List X) (x : X) → xs' ≡ xs ++ x ∷ [] → AreSame xs' (xs ++ x ∷ [])
  is_added xs xs' x e p = (subst (λ l. Contains l p) e, subst (λ l. Contains l p) (sym e))

  -- one step of a walk over elements
  pub next : (once once' ps : List X) (i : ℕ) (x : X) → i < length ps → x ≡ get_or ps i x
      → AreSame once (take i ps) → AreSame once' (once ++ x ∷ []) → AreSame once' (take (i + 1) ps)
  next once once' ps i x lt is s t = subst (λ l. AreSame once' l) (sym (more ps i x lt is))
      (λ p. (λ h. (at_end once (take i ps) x s p).0 ((t p).0 h), λ h. (t p).1 ((at_end once (take i ps) x s p).1 h)))
