-- The segments that cover a range, level by level.
use Rattle.std.proofs.Common.{◌≡◌, ℕ, ◌+◌, ◌-◌, ◌*◌, ◌/◌, ◌%◌, ◌<◌, ◌≤◌, ◌⊎◌, ◌↔◌, inl, inr, List, [], ◌∷◌, ◌++◌, Bool, true, false, cond, nat_eq, Contains, length, get_or, take, min, sym, ap, ◌∙◌, subst, refl, arith}
use Rattle.std.proofs.lemmas.Bool.{cases_eq}
use Rattle.std.proofs.lemmas.Bool.Decides.{nat_tests}
use Rattle.std.proofs.lemmas.List.{get_or_default}
use Rattle.std.proofs.lemmas.List.Elements.{Contains-append_left, Contains-append_right, Contains-append_cases}
use Rattle.gql_cycles.proofs.Members.{Contains-nil, Contains-here, Contains-cases, take_has, take_kept}
use Rattle.gql_cycles.specs.Cover.{Below, here, left, right, IsAbove, IsWithin, IsWithinAny, if_odd}
use Rattle.gql_cycles.specs.declared.cover.Range.{Range}

-- what is added of an odd number
odd_is : (number segment v : ℕ) (b : Bool) → nat_eq (number % 2) 1 ≡ b → Contains (cond b (segment ∷ []) []) v → (number % 2 ≡ 1) × (v ≡ segment)
odd_is number segment v true e h = elim (Contains-cases v segment [] h) [
  | inl s ↦ let odd : number % 2 ≡ 1 = grind (arith, nat_tests, e) in (odd, s)
  | inr n ↦ absurd (Contains-nil v n)
]
odd_is number segment v false e h = absurd (Contains-nil v h)

odd_has : (number segment : ℕ) → number % 2 ≡ 1 → Contains (if_odd number segment) segment
odd_has number segment odd = rw odd (Contains-here segment [])

-- where a number is below a segment
below_cases : {count v p : ℕ} → Below count v p → ((v ≡ count + p) × (p < count)) ⊎ ((v < count) × (Below count (2 * v) p ⊎ Below count (2 * v + 1) p))
below_cases (here e lt) = inl (e, lt)
below_cases (left lt b) = inr (lt, inl b)
below_cases (right lt b) = inr (lt, inr b)

below_leaf : {count v p : ℕ} → count ≤ v → Below count v p → (v ≡ count + p) × (p < count)
below_leaf le b = elim (below_cases b) [ inl h ↦ h | inr h ↦ absurd (omega (arith, h.0, le)) ]

-- below one of the segments, or of those from `start` on that are less than `end`
abbrev pub IsHeld : ℕ → List ℕ → ℕ → ℕ → ℕ → Type 0
IsHeld count segments start end p = IsAbove count segments p ⊎ ((u : ℕ) × (start ≤ u) × (u < end) × Below count u p)

-- a level of the tree on which the segments from `start` on that are less than `end` are still to
-- be added
pub record Covering (count : ℕ) (old : List ℕ) (first last : ℕ) (segments : List ℕ) (start end : ℕ) : Type 0 where
  pub within : (v : ℕ) → Contains segments v → Contains old v ⊎ (v < 2 * count)
  pub top : end ≤ 2 * count
  pub held : (p : ℕ) → IsHeld count segments start end p ↔ IsHeld count old first last p

module _ (count : ℕ) (segments : List ℕ) (start end : ℕ) (some : start < end) (top : end ≤ 2 * count) where
  abbrev added : List ℕ
  added = (segments ++ if_odd start start) ++ if_odd end (end - 1)

  added_cases : (v : ℕ) → Contains added v → Contains segments v ⊎ ((start ≤ v) × (v < end))
  added_cases v h = elim (Contains-append_cases (segments ++ if_odd start start) (if_odd end (end - 1)) v h) [
    | inl g ↦ elim (Contains-append_cases segments (if_odd start start) v g) [
      | inl o ↦ inl o
      | inr a ↦ let r = odd_is start start v (nat_eq (start % 2) 1) refl a in inr (omega (arith, r.1, some), omega (arith, r.1, some))
    ]
    | inr b ↦ let r = odd_is end (end - 1) v (nat_eq (end % 2) 1) refl b in inr (omega (arith, r.1, some), omega (arith, r.1, some))
  ]

  -- the segment above
  above : (u p : ℕ) → start < u ⊎ (start % 2 ≡ 0) → start ≤ u → u < end → (u + 1 < end) ⊎ (end % 2 ≡ 0) → Below count u p → (h : ℕ) × ((start + 1) / 2 ≤ h) × (h < end / 2) × Below count h p
  above u p low le lt high b = elim (cases_eq (u % 2) 0) [
    | inl even ↦
        let e : 2 * (u / 2) ≡ u = omega (arith, even) in
        (u / 2, omega (arith, low, le, even), omega (arith, high, lt, even), left (omega (arith, lt, top, even)) (subst (λ w. Below count w p) (sym e) b))
    | inr odd ↦
        let e : 2 * (u / 2) + 1 ≡ u = omega (arith, odd) in
        (u / 2, omega (arith, low, le, odd), omega (arith, high, lt, odd), right (omega (arith, lt, top, odd)) (subst (λ w. Below count w p) (sym e) b))
  ]

  step_last : (u p : ℕ) → start < u ⊎ (start % 2 ≡ 0) → start ≤ u → u < end → Below count u p → IsHeld count added ((start + 1) / 2) (end / 2) p
  step_last u p low le lt b = elim (cases_eq (end % 2) 0) [
    | inl even ↦ inr (above u p low le lt (inr even) b)
    | inr odd ↦ elim (cases_eq (u + 1) end) [
      | inl e ↦
          let last : u ≡ end - 1 = omega (arith, e) in
          let is_odd : end % 2 ≡ 1 = omega (arith, odd) in
          inl (end - 1, Contains-append_right (segments ++ if_odd start start) (if_odd end (end - 1)) (end - 1) (odd_has end (end - 1) is_odd), subst (λ w. Below count w p) last b)
      | inr ne ↦ inr (above u p low le lt (inl (omega (arith, ne, lt))) b)
    ]
  ]

  step_there : (p : ℕ) → IsHeld count segments start end p → IsHeld count added ((start + 1) / 2) (end / 2) p
  step_there p (inl n) = inl (n.0, Contains-append_left (segments ++ if_odd start start) (if_odd end (end - 1)) n.0 (Contains-append_left segments (if_odd start start) n.0 n.1), n.2)
  step_there p (inr (u, le, lt, b)) = elim (cases_eq (start % 2) 0) [
    | inl even ↦ step_last u p (inr even) le lt b
    | inr odd ↦ elim (cases_eq u start) [
      | inl e ↦
          let is_odd : start % 2 ≡ 1 = omega (arith, odd) in
          inl (start, Contains-append_left (segments ++ if_odd start start) (if_odd end (end - 1)) start (Contains-append_right segments (if_odd start start) start (odd_has start start is_odd)), subst (λ w. Below count w p) e b)
      | inr ne ↦ step_last u p (inl (omega (arith, ne, le))) le lt b
    ]
  ]

  step_back : (p : ℕ) → IsHeld count added ((start + 1) / 2) (end / 2) p → IsHeld count segments start end p
  step_back p (inl (v, h, b)) = elim (added_cases v h) [ inl o ↦ inl (v, o, b) | inr r ↦ inr (v, r.0, r.1, b) ]
  step_back p (inr (h, le, lt, b)) = elim (below_cases b) [
    | inl leaf ↦ absurd (omega (arith, leaf.0, lt, top))
    | inr inner ↦ elim inner.1 [
      | inl l ↦ inr (2 * h, omega (arith, le), omega (arith, lt), l)
      | inr r ↦ inr (2 * h + 1, omega (arith, le), omega (arith, lt), r)
    ]
  ]

-- one level up
pub covering_more : (count : ℕ) (old : List ℕ) (first last : ℕ) (segments middle after : List ℕ) (start end : ℕ) → start < end → Covering count old first last segments start end →
    middle ≡ segments ++ if_odd start start → after ≡ middle ++ if_odd end (end - 1) → Covering count old first last after ((start + 1) / 2) (end / 2)
covering_more count old first last segments middle after start end some c one two =
    let is : after ≡ added count segments start end some c.top = two ∙ ap (λ xs. xs ++ if_odd end (end - 1)) one in
    subst (λ xs. Covering count old first last xs ((start + 1) / 2) (end / 2)) (sym is) (record {
      within = λ v h. elim (added_cases count segments start end some c.top v h) [ inl o ↦ c.within v o | inr r ↦ inr (omega (arith, r.1, c.top)) ];
      top = omega (arith, c.top);
      held = λ p. (λ h. (c.held p).0 (step_back count segments start end some c.top p h), λ h. step_there count segments start end some c.top p ((c.held p).1 h));
    })

-- the lowest level has the numbers themselves
module _ (count : ℕ) (r : Range) (p : ℕ) where
  leaf_from : (u : ℕ) → count + min r.start count ≤ u → u < count + min r.end count → Below count u p → (p < count) × IsWithin r p
  leaf_from u le lt b = let l = below_leaf (omega (arith, le)) b in (l.1, (omega (arith, l.0, l.1, le), omega (arith, l.0, l.1, lt)))

  held_first : (old : List ℕ) → IsAbove count old p ⊎ ((p < count) × IsWithin r p) → IsHeld count old (count + min r.start count) (count + min r.end count) p
  held_first old (inl o) = inl o
  held_first old (inr w) = inr (count + p, omega (arith, w.0, w.1.0), omega (arith, w.0, w.1.1), here refl w.0)

pub covering_all : (count : ℕ) (old segments : List ℕ) (r : Range) (low high : ℕ) → high ≤ low → Covering count old (count + min r.start count) (count + min r.end count) segments low high →
    (p : ℕ) → IsAbove count segments p ↔ (IsAbove count old p ⊎ ((p < count) × IsWithin r p))
covering_all count old segments r low high none c p = (
  λ h. elim ((c.held p).0 (inl h)) [ inl o ↦ inl o | inr u ↦ inr (leaf_from count r p u.0 u.1 u.2 u.3) ],
  λ h. elim ((c.held p).1 (held_first count r p old h)) [ inl n ↦ n | inr u ↦ absurd (omega (arith, u.1, u.2, none)) ],
)

-- the segments of one range more
pub within_more : (count : ℕ) (before after : List ℕ) → ((v : ℕ) → Contains before v → v < 2 * count) → ((v : ℕ) → Contains after v → Contains before v ⊎ (v < 2 * count)) → (v : ℕ) → Contains after v → v < 2 * count
within_more count before after was is v h = elim (is v h) [ inl o ↦ was v o | inr lt ↦ lt ]

module _ (count : ℕ) (ranges : List Range) (i : ℕ) (d : Range) (within : i < length ranges) (before after : List ℕ) where
  abbrev r : Range
  r = get_or ranges i d

  item : get_or ranges i r ≡ r
  item = get_or_default ranges i r d within

  pub above_more : ((p : ℕ) → IsAbove count before p ↔ ((p < count) × IsWithinAny (take i ranges) p)) → ((p : ℕ) → IsAbove count after p ↔ (IsAbove count before p ⊎ ((p < count) × IsWithin r p))) →
      (p : ℕ) → IsAbove count after p ↔ ((p < count) × IsWithinAny (take (i + 1) ranges) p)
  above_more was is p = (
    λ h. elim ((is p).0 h) [
      | inl o ↦ let w = (was p).0 o in (w.0, (w.1.0, take_kept ranges i r w.1.0 within item (inl w.1.1), w.1.2))
      | inr w ↦ (w.0, (r, take_kept ranges i r r within item (inr refl), w.1))
    ],
    λ w. elim (take_has ranges i r w.1.0 within item w.1.1) [
      | inl o ↦ (is p).1 (inl ((was p).1 (w.0, (w.1.0, o, w.1.2))))
      | inr e ↦ (is p).1 (inr (w.0, subst (λ x. IsWithin x p) (sym e) w.1.2))
    ],
  )
