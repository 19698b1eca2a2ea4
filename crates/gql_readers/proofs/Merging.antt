-- A list in order, with changes in order: what it has, and that it is in order.
use Rattle.std.proofs.Common.{◌≡◌, ◌⊎◌, inl, inr, suc, List, [], ◌∷◌, ◌++◌, Bool, true, false, cond, filter, get_or, refl, ap, sym, subst, ◌∙◌, Contains, arith}
use Rattle.std.specs.Cmp.{IsTotalOrder}
use Rattle.std.specs.List.{AllPairs}
use Rattle.std.specs.Ordering.{is_eq, is_gt, is_lt, ordering_reverse}
use Rattle.std.specs.declared.cmp.Ordering.{Ordering}
use Rattle.std.specs.declared.cmp.Ordering.TheVariants.{Less, Equal, Greater}
use Rattle.std.proofs.lemmas.Cmp.{tied_itself}
use Rattle.std.proofs.lemmas.List.Elements.{Contains-append_left, Contains-append_right, Contains-append_cases, Contains-get_or, All-append}
use Rattle.std.proofs.lemmas.List.Kept.{AllPairs-cons, AllPairs-filter}
use Rattle.gql_facts.specs.ListMembers.{Contains-nil, Contains-here, Contains-there, Contains-cases}
use Rattle.gql_readers.specs.Merged.{above, below, here, merged}

-- ---- lists

pub pairs_tail : {X : Type 0} (R : X → X → Type 0) (x : X) (xs : List X) → AllPairs R (x ∷ xs) → AllPairs R xs
pairs_tail R x xs all i j d lt within = all (suc i) (suc j) d (omega (arith, lt)) (omega (arith, within))

pub pairs_head : {X : Type 0} (R : X → X → Type 0) (x : X) (xs : List X) → AllPairs R (x ∷ xs) → (y : X) → Contains xs y → R x y
pairs_head R x xs all y c = subst (λ z. R x z) c.2 (all 0 (suc c.0) y (omega arith) (omega (arith, c.1)))

pub pairs_none : {X : Type 0} (R : X → X → Type 0) → AllPairs R []
pairs_none R i j d lt within = absurd (omega (arith, lt, within))

pub pairs_one : {X : Type 0} (R : X → X → Type 0) (x : X) → AllPairs R (x ∷ [])
pairs_one R x i j d lt within = absurd (omega (arith, lt, within))

pub pairs_append : {X : Type 0} (R : X → X → Type 0) (xs ys : List X) → AllPairs R xs → AllPairs R ys
    → ((x y : X) → Contains xs x → Contains ys y → R x y) → AllPairs R (xs ++ ys)
pairs_append R [] ys first second across = second
pairs_append R (x ∷ xs) ys first second across = AllPairs-cons R x (xs ++ ys)
    (All-append (R x) xs ys (λ k d l. pairs_head R x xs first (get_or xs k d) (Contains-get_or xs k d l)) (λ k d l. across x (get_or ys k d) (Contains-here x xs) (Contains-get_or ys k d l)))
    (pairs_append R xs ys (pairs_tail R x xs first) second (λ y z c. across y z (Contains-there y x xs c)))

filter_by : {A : Type 0} (b : Bool) (p : A → Bool) (y x : A) (fs ys : List A) → p y ≡ b → (Contains fs x → Contains ys x × (p x ≡ true)) → Contains (cond b (y ∷ fs) fs) x → Contains (y ∷ ys) x × (p x ≡ true)
filter_by true p y x fs ys t h c = elim (Contains-cases x y fs c) [
  | inl e ↦ (subst (λ z. Contains (y ∷ ys) z) (sym e) (Contains-here y ys), subst (λ z. p z ≡ true) (sym e) t)
  | inr r ↦ let k = h r in (Contains-there x y ys k.0, k.1)
]
filter_by false p y x fs ys t h c = let k = h c in (Contains-there x y ys k.0, k.1)

pub filter_from : {A : Type 0} (p : A → Bool) (xs : List A) (x : A) → Contains (filter p xs) x → Contains xs x × (p x ≡ true)
filter_from p [] x c = absurd (Contains-nil x c)
filter_from p (y ∷ ys) x c = filter_by (p y) p y x (filter p ys) ys refl (filter_from p ys x) c

filter_to : {A : Type 0} (b : Bool) (y x : A) (fs : List A) → (x ≡ y → b ≡ true) → ((x ≡ y) ⊎ Contains fs x) → Contains (cond b (y ∷ fs) fs) x
filter_to true y x fs t (inl e) = subst (λ z. Contains (y ∷ fs) z) (sym e) (Contains-here y fs)
filter_to true y x fs t (inr c) = Contains-there x y fs c
filter_to false y x fs t (inl e) = absurd (let b : false ≡ true = t e in cc)
filter_to false y x fs t (inr c) = c

pub filter_has : {A : Type 0} (p : A → Bool) (xs : List A) (x : A) → p x ≡ true → Contains xs x → Contains (filter p xs) x
filter_has p [] x t c = absurd (Contains-nil x c)
filter_has p (y ∷ ys) x t c = filter_to (p y) y x (filter p ys) (λ e. subst (λ z. p z ≡ true) e t) (elim (Contains-cases x y ys c) [ inl e ↦ inl e | inr r ↦ inr (filter_has p ys x t r) ])

-- what passes the second test passes the first
filter_both_by : {A : Type 0} (a b : Bool) (p q : A → Bool) (x : A) (xs : List A) → p x ≡ a → q x ≡ b → (b ≡ true → a ≡ true) → filter q (filter p xs) ≡ filter q xs → filter q (cond a (x ∷ filter p xs) (filter p xs)) ≡ cond b (x ∷ filter q xs) (filter q xs)
filter_both_by true true p q x xs pa qb h e = ap (λ (t : Bool). cond t (x ∷ filter q (filter p xs)) (filter q (filter p xs))) qb ∙ ap (λ zs. x ∷ zs) e
filter_both_by true false p q x xs pa qb h e = ap (λ (t : Bool). cond t (x ∷ filter q (filter p xs)) (filter q (filter p xs))) qb ∙ e
filter_both_by false true p q x xs pa qb h e = absurd (let t : false ≡ true = h refl in cc)
filter_both_by false false p q x xs pa qb h e = e

pub filter_both : {A : Type 0} (p q : A → Bool) (xs : List A) → ((x : A) → q x ≡ true → p x ≡ true) → filter q (filter p xs) ≡ filter q xs
filter_both p q [] h = refl
filter_both p q (x ∷ xs) h = filter_both_by (p x) (q x) p q x xs refl refl (h x) (filter_both p q xs h)

-- two lists in order with the same elements are the same
pub same_in_order : {A : Type 0} (R : A → A → Type 0) → ((x y z : A) → R x y → R y z → R x z) → ((x : A) → R x x → ⊥) → (xs ys : List A) → AllPairs R xs → AllPairs R ys
    → ((z : A) → Contains xs z → Contains ys z) → ((z : A) → Contains ys z → Contains xs z) → xs ≡ ys
same_in_order R trans strict [] [] up vp there back = refl
same_in_order R trans strict [] (y ∷ ys) up vp there back = absurd (Contains-nil y (back y (Contains-here y ys)))
same_in_order R trans strict (x ∷ xs) [] up vp there back = absurd (Contains-nil x (there x (Contains-here x xs)))
same_in_order {A = A} R trans strict (x ∷ xs) (y ∷ ys) up vp there back =
    let same : x ≡ y = elim (Contains-cases x y ys (there x (Contains-here x xs))) [
      | inl e ↦ e
      | inr c ↦ elim (Contains-cases y x xs (back y (Contains-here y ys))) [
        | inl e ↦ sym e
        | inr d ↦ absurd (strict x (trans x y x (pairs_head R x xs up y d) (pairs_head R y ys vp x c)))
      ]
    ] in
    let rest : xs ≡ ys = same_in_order R trans strict xs ys (pairs_tail R x xs up) (pairs_tail R y ys vp)
    (λ z c. elim (Contains-cases z y ys (there z (Contains-there z x xs c))) [
      | inl e ↦ absurd (strict x (subst (λ w. R x w) (e ∙ sym same) (pairs_head R x xs up z c)))
      | inr d ↦ d
    ])
    (λ z c. elim (Contains-cases z x xs (back z (Contains-there z y ys c))) [
      | inl e ↦ absurd (strict y (subst (λ w. R y w) (e ∙ same) (pairs_head R y ys vp z c)))
      | inr d ↦ d
    ]) in
    ap (λ w. w ∷ xs) same ∙ ap (λ zs. y ∷ zs) rest

-- ---- orders

pub less_is : (o : Ordering) → o ≡ Less → is_lt o ≡ true
less_is o e = ap is_lt e

pub is_less : (o : Ordering) → is_lt o ≡ true → o ≡ Less
is_less Less e = refl
is_less Equal e = absurd (let t : false ≡ true = e in cc)
is_less Greater e = absurd (let t : false ≡ true = e in cc)

pub is_equal : (o : Ordering) → is_eq o ≡ true → o ≡ Equal
is_equal Less e = absurd (let t : false ≡ true = e in cc)
is_equal Equal e = refl
is_equal Greater e = absurd (let t : false ≡ true = e in cc)

is_greater : (o : Ordering) → is_gt o ≡ true → o ≡ Greater
is_greater Less e = absurd (let t : false ≡ true = e in cc)
is_greater Equal e = absurd (let t : false ≡ true = e in cc)
is_greater Greater e = refl

pub by_order : (o : Ordering) → (o ≡ Less) ⊎ ((o ≡ Equal) ⊎ (o ≡ Greater))
by_order Less = inl refl
by_order Equal = inr (inl refl)
by_order Greater = inr (inr refl)

module _ {K : Type 0} (order : K → K → Ordering) (total : IsTotalOrder order) (exact : (a b : K) → order a b ≡ Equal → a ≡ b) where
  pub not_self : (a : K) → order a a ≡ Less → ⊥
  not_self a e = let t : Equal ≡ Less = sym (tied_itself total a) ∙ e in cc t

  pub not_less : (a b : K) → order a b ≡ Less → a ≡ b → ⊥
  not_less a b e same = not_self a (subst (λ c. order a c ≡ Less) (sym same) e)

  turned : (a b : K) → order a b ≡ Greater → order b a ≡ Less
  turned a b e = total.antisymm b a ∙ ap ordering_reverse e

  turned_less : (a b : K) → order a b ≡ Less → order b a ≡ Greater
  turned_less a b e = total.antisymm b a ∙ ap ordering_reverse e

  module _ {A : Type 0} (at : A → K) where
    below_from : (k : K) (xs : List A) (x : A) → Contains (below order at k xs) x → Contains xs x × (order (at x) k ≡ Less)
    below_from k xs x c = let r = filter_from (λ y. is_lt (order (at y) k)) xs x c in (r.0, is_less (order (at x) k) r.1)

    pub here_from : (k : K) (xs : List A) (x : A) → Contains (here order at k xs) x → Contains xs x × (at x ≡ k)
    here_from k xs x c = let r = filter_from (λ y. is_eq (order (at y) k)) xs x c in (r.0, exact (at x) k (is_equal (order (at x) k) r.1))

    above_from : (k : K) (xs : List A) (x : A) → Contains (above order at k xs) x → Contains xs x × (order k (at x) ≡ Less)
    above_from k xs x c = let r = filter_from (λ y. is_gt (order (at y) k)) xs x c in (r.0, turned (at x) k (is_greater (order (at x) k) r.1))

    pub here_has : (k : K) (xs : List A) (x : A) → Contains xs x → at x ≡ k → Contains (here order at k xs) x
    here_has k xs x c e = filter_has (λ y. is_eq (order (at y) k)) xs x (ap is_eq (ap (λ j. order j k) e ∙ tied_itself total k)) c

    -- what is at a place above another is found above that one as well
    pub here_above : (j k : K) (xs : List A) → order j k ≡ Less → here order at k (above order at j xs) ≡ here order at k xs
    here_above j k xs lt = filter_both (λ y. is_gt (order (at y) j)) (λ y. is_eq (order (at y) k)) xs
        (λ x e. ap is_gt (ap (λ i. order i j) (exact (at x) k (is_equal (order (at x) k) e)) ∙ turned_less j k lt))

    module _ {C : Type 0} (of : C → K) (make : List A → C → List A) where
      abbrev Rises : List C → Type 0
      Rises cs = AllPairs (λ c d. order (of c) (of d) ≡ Less) cs

      -- an element that no change is about, or one that a change made
      abbrev pub IsFrom : List A → List C → A → Type 0
      IsFrom xs cs y = (Contains xs y × ((c : C) → Contains cs c → at y ≡ of c → ⊥))
          ⊎ ((c : C) × Contains cs c × Contains (make (here order at (of c) xs) c) y)

      pub merged_from : (xs : List A) (cs : List C) → Rises cs → (y : A) → Contains (merged order at of make xs cs) y → IsFrom xs cs y
      merged_from xs [] up y h = inl (h, λ c m. absurd (Contains-nil c m))
      merged_from xs (c ∷ cs) up y h = elim (Contains-append_cases (below order at (of c) xs) (make (here order at (of c) xs) c ++ merged order at of make (above order at (of c) xs) cs) y h) [
        | inl b ↦
            let r = below_from (of c) xs y b in
            inl (
              r.0,
              λ d m e. elim (Contains-cases d c cs m) [
                | inl q ↦ not_less (at y) (of c) r.1 (e ∙ ap of q)
                | inr t ↦ not_less (at y) (of d) (total.trans (at y) (of c) (of d) r.1 (pairs_head (λ a b. order (of a) (of b) ≡ Less) c cs up d t)) e
              ],
            )
        | inr rest ↦ elim (Contains-append_cases (make (here order at (of c) xs) c) (merged order at of make (above order at (of c) xs) cs) y rest) [
          | inl m ↦ inr (c, Contains-here c cs, m)
          | inr a ↦ elim (merged_from (above order at (of c) xs) cs (pairs_tail (λ a b. order (of a) (of b) ≡ Less) c cs up) y a) [
            | inl o ↦
                let r = above_from (of c) xs y o.0 in
                inl (
                  r.0,
                  λ d m e. elim (Contains-cases d c cs m) [
                    | inl q ↦ not_less (of c) (at y) r.1 (sym (e ∙ ap of q))
                    | inr t ↦ o.1 d t e
                  ],
                )
            | inr o ↦ inr (
              o.0,
              Contains-there o.0 c cs o.1,
              subst (λ (zs : List A). Contains (make zs o.0) y) (here_above (of c) (of o.0) xs (pairs_head (λ a b. order (of a) (of b) ≡ Less) c cs up o.0 o.1)) o.2,
            )
          ]
        ]
      ]

      pub merged_keeps : (xs : List A) (cs : List C) (y : A) → Contains xs y → ((c : C) → Contains cs c → at y ≡ of c → ⊥) → Contains (merged order at of make xs cs) y
      merged_keeps xs [] y h n = h
      merged_keeps xs (c ∷ cs) y h n =
          let mk = make (here order at (of c) xs) c in
          let more = merged order at of make (above order at (of c) xs) cs in
          elim (by_order (order (at y) (of c))) [
            | inl l ↦ Contains-append_left (below order at (of c) xs) (mk ++ more) y (filter_has (λ z. is_lt (order (at z) (of c))) xs y (ap is_lt l) h)
            | inr o ↦ elim o [
              | inl e ↦ absurd (n c (Contains-here c cs) (exact (at y) (of c) e))
              | inr g ↦ Contains-append_right (below order at (of c) xs) (mk ++ more) y (Contains-append_right mk more y
                  (merged_keeps (above order at (of c) xs) cs y (filter_has (λ z. is_gt (order (at z) (of c))) xs y (ap is_gt g) h) (λ d m. n d (Contains-there d c cs m))))
            ]
          ]

      pub merged_makes : (xs : List A) (cs : List C) → Rises cs → (c : C) (y : A) → Contains cs c → Contains (make (here order at (of c) xs) c) y → Contains (merged order at of make xs cs) y
      merged_makes xs [] up c y m h = absurd (Contains-nil c m)
      merged_makes xs (d ∷ cs) up c y m h =
          let mk = make (here order at (of d) xs) d in
          let more = merged order at of make (above order at (of d) xs) cs in
          Contains-append_right (below order at (of d) xs) (mk ++ more) y (elim (Contains-cases c d cs m) [
            | inl e ↦ Contains-append_left mk more y (subst (λ z. Contains (make (here order at (of z) xs) z) y) e h)
            | inr t ↦ Contains-append_right mk more y (merged_makes (above order at (of d) xs) cs (pairs_tail (λ a b. order (of a) (of b) ≡ Less) d cs up) c y t
                (subst (λ (zs : List A). Contains (make zs c) y) (sym (here_above (of d) (of c) xs (pairs_head (λ a b. order (of a) (of b) ≡ Less) d cs up c t))) h))
          ])

      -- what is made for a change stands at its place, at most one of it
      pub record IsMadeAt (xs : List A) (c : C) : Type 0 where
        pub place : (y : A) → Contains (make xs c) y → at y ≡ of c
        pub once : AllPairs (λ x y. order (at x) (at y) ≡ Less) (make xs c)

      pub merged_rises : (xs : List A) (cs : List C) → Rises cs → AllPairs (λ x y. order (at x) (at y) ≡ Less) xs → ((ys : List A) (c : C) → IsMadeAt ys c) → AllPairs (λ x y. order (at x) (at y) ≡ Less) (merged order at of make xs cs)
      merged_rises xs [] up all good = all
      merged_rises xs (c ∷ cs) up all good =
          let R = λ (x y : A). order (at x) (at y) ≡ Less in
          let mk = make (here order at (of c) xs) c in
          let more = merged order at of make (above order at (of c) xs) cs in
          let rest : Rises cs = pairs_tail (λ a b. order (of a) (of b) ≡ Less) c cs up in
          let at_mk : (y : A) → Contains mk y → at y ≡ of c = (good (here order at (of c) xs) c).place in
          let at_more : (z : A) → Contains more z → order (of c) (at z) ≡ Less = λ z m. elim (merged_from (above order at (of c) xs) cs rest z m) [
            | inl o ↦ (above_from (of c) xs z o.0).1
            | inr o ↦ subst (λ k. order (of c) k ≡ Less) (sym ((good (here order at (of o.0) (above order at (of c) xs)) o.0).place z o.2)) (pairs_head (λ a b. order (of a) (of b) ≡ Less) c cs up o.0 o.1)
          ] in
          pairs_append R (below order at (of c) xs) (mk ++ more) (AllPairs-filter R (λ x. is_lt (order (at x) (of c))) xs all)
          (pairs_append R mk more (good (here order at (of c) xs) c).once
          (merged_rises (above order at (of c) xs) cs rest (AllPairs-filter R (λ x. is_gt (order (at x) (of c))) xs all) good)
          (λ y z m n. subst (λ k. order k (at z) ≡ Less) (sym (at_mk y m)) (at_more z n)))
          (λ y z m n.
          let b = (below_from (of c) xs y m).1 in
          elim (Contains-append_cases mk more z n) [
            | inl t ↦ subst (λ k. order (at y) k ≡ Less) (sym (at_mk z t)) b
            | inr t ↦ total.trans (at y) (of c) (at z) b (at_more z t)
          ])

  -- some change is about a place, or none is
  pub about : {C : Type 0} (of : C → K) (cs : List C) (k : K) → ((c : C) × Contains cs c × (of c ≡ k)) ⊎ ((c : C) → Contains cs c → of c ≡ k → ⊥)
  about of [] k = inr (λ c m. absurd (Contains-nil c m))
  about of (c ∷ cs) k = elim (by_order (order (of c) k)) [
    | inl l ↦ further of c cs k (not_less (of c) k l) (about of cs k)
    | inr o ↦ elim o [
      | inl e ↦ inl (c, Contains-here c cs, exact (of c) k e)
      | inr g ↦ further of c cs k (λ e. not_less k (of c) (turned (of c) k g) (sym e)) (about of cs k)
    ]
  ] where
    further : {C : Type 0} (of : C → K) (c : C) (cs : List C) (k : K) → (of c ≡ k → ⊥) → ((d : C) × Contains cs d × (of d ≡ k)) ⊎ ((d : C) → Contains cs d → of d ≡ k → ⊥) → ((d : C) × Contains (c ∷ cs) d × (of d ≡ k)) ⊎ ((d : C) → Contains (c ∷ cs) d → of d ≡ k → ⊥)
    further of c cs k n (inl r) = inl (r.0, Contains-there r.0 c cs r.1, r.2)
    further of c cs k n (inr r) = inr (λ d m e. elim (Contains-cases d c cs m) [ inl q ↦ n (ap of (sym q) ∙ e) | inr t ↦ r d t e ])
