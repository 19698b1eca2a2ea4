-- What given numbers leave of a range, one by one.
use Rattle.std.proofs.Common.{◌≡◌, ℕ, ◌+◌, ◌<◌, ◌≤◌, ◌⊎◌, ◌↔◌, ◌++◌, inl, inr, List, [], ◌∷◌, ◌&&◌, Bool, true, false, cond, nat_le, nat_lt, map, Contains, append-nil, length, get_or, take, sym, ap, ◌∙◌, subst, refl, arith}
use Rattle.std.proofs.lemmas.Bool.{cases_eq, cases_lt}
use Rattle.std.proofs.lemmas.Bool.Decides.{nat_tests}
use Rattle.std.proofs.lemmas.List.{get_or_default, get_or-take, get_or_append_left, length-take-le, map_push, take_more}
use Rattle.std.proofs.Math.Seq.{get_or-append_seam}
use Rattle.std.proofs.lemmas.List.Sorted.{Contains-permutation, IsPermutation-sym}
use Rattle.std.proofs.lemmas.List.Elements.{Contains-append_left, Contains-push, Contains-push_cases}
use Rattle.std.specs.List.Sorted.{IsNonDecreasing, IsPermutation}
use Rattle.gql_cycles.proofs.Members.{Contains-nil, take_has, take_kept}
use Rattle.gql_iface_rules.specs.S19Ranges.{gap_before, start_after, IsLeft, IsMissing, AreMissing}
use Rattle.gql_iface_rules.specs.S19DefaultValueCycles.{NumberedObject, ObjectValue, default_values}
use Rattle.gql_ast.specs.declared.type_system.InputValueDefinition.{InputValueDefinition}
use Rattle.gql_built_in.specs.declared.sited.Sited.{Sited}
use Rattle.gql_cycles.specs.Cover.{IsWithin, IsWithinAny}
use Rattle.gql_cycles.specs.declared.cover.Range.{Range}

-- one range more
pub within_push : (ranges : List Range) (r : Range) (p : ℕ) → IsWithinAny (ranges ++ r ∷ []) p ↔ (IsWithinAny ranges p ⊎ IsWithin r p)
within_push ranges r p = (
  λ h. elim (Contains-push_cases ranges r h.0 h.1) [ inl o ↦ inl (h.0, o, h.2) | inr e ↦ inr (subst (λ x. IsWithin x p) (sym e) h.2) ],
  λ h. elim h [ inl o ↦ (o.0, Contains-append_left ranges (r ∷ []) o.0 o.1, o.2) | inr w ↦ (r, Contains-push ranges r, w) ],
)

-- what some numbers, in order, leave of a range up to where the rest starts
pub record Gaps (r : Range) (old : List Range) (given : List ℕ) (gaps : List Range) (start : ℕ) : Type 0 where
  pub begins : r.start ≤ start
  pub found : (p : ℕ) → IsWithinAny gaps p ↔ (IsWithinAny old p ⊎ ((r.start ≤ p) × (p < start) × (Contains given p → ⊥)))
  pub before : (p : ℕ) → Contains given p → p < r.end → p < start
  pub last : (start ≡ r.start) ⊎ ((k : ℕ) × (start ≡ k + 1) × Contains given k × (k < r.end))

pub gaps_none : (r : Range) (old : List Range) → Gaps r old [] old r.start
gaps_none r old = record {
  begins = omega arith;
  found = λ p. (λ h. inl h, λ h. elim h [ inl o ↦ o | inr w ↦ absurd (omega (arith, w.0, w.1)) ]);
  before = λ p h. absurd (Contains-nil p h);
  last = inl refl;
}

module _ (r : Range) (old : List Range) (given : List ℕ) (rises : IsNonDecreasing given) (i : ℕ) (within : i < length given) (gaps : List Range) (start : ℕ) (c : Gaps r old (take i given) gaps start) where
  abbrev n : ℕ
  n = get_or given i 0

  item : get_or given i n ≡ n
  item = get_or_default given i n 0 within

  has : (p : ℕ) → Contains (take (i + 1) given) p → Contains (take i given) p ⊎ (n ≡ p)
  has p h = take_has given i n p within item h

  keeps : (p : ℕ) → Contains (take i given) p ⊎ (n ≡ p) → Contains (take (i + 1) given) p
  keeps p h = take_kept given i n p within item h

  -- an earlier one is no greater
  earlier : (k : ℕ) → Contains (take i given) k → k ≤ n
  earlier k h =
      let len : length (take i given) ≡ i = length-take-le i given (omega (arith, within)) in
      let lt : h.0 < i = omega (arith, h.1, len) in
      let at_k : get_or given h.0 k ≡ k = sym (get_or-take i given h.0 k lt) ∙ h.2 in
      let le = rises h.0 i k (omega (arith, lt)) within in
      omega (arith, le, at_k, get_or_default given i k 0 within)

  below_last : (p : ℕ) → r.start ≤ p → p < start → (k : ℕ) × (p ≤ k) × (start ≡ k + 1) × Contains (take i given) k × (k < r.end)
  below_last p lo lt = elim c.last [ inl e ↦ absurd (omega (arith, e, lo, lt)) | inr k ↦ (k.0, omega (arith, k.1, lt), k.1, k.2, k.3) ]

  kept : (n < start) ⊎ (r.end ≤ n) → Gaps r old (take (i + 1) given) gaps start
  kept other = record {
    begins = c.begins;
    found = λ p. (
      λ h. elim ((c.found p).0 h) [
        | inl o ↦ inl o
        | inr w ↦ inr (
          w.0,
          w.1,
          λ g. elim (has p g) [
            | inl b ↦ w.2 b
            | inr e ↦
                let k = below_last p w.0 w.1 in
                let le = earlier k.0 k.3 in
                elim other [
                  | inl less ↦ let same : k.0 ≡ p = omega (arith, le, k.1, k.2, e, less) in w.2 (subst (λ q. Contains (take i given) q) same k.3)
                  | inr past ↦ absurd (omega (arith, past, e, k.1, k.4))
                ]
          ],
        )
      ],
      λ h. elim h [ inl o ↦ (c.found p).1 (inl o) | inr w ↦ (c.found p).1 (inr (w.0, w.1, λ b. w.2 (keeps p (inl b)))) ],
    );
    before = λ p g lt. elim (has p g) [
      | inl b ↦ c.before p b lt
      | inr e ↦ elim other [ inl less ↦ omega (arith, less, e) | inr past ↦ absurd (omega (arith, past, e, lt)) ]
    ];
    last = elim c.last [ inl e ↦ inl e | inr k ↦ inr (k.0, k.1, keeps k.0 (inl k.2), k.3) ];
  }

  pushed : start ≤ n → n < r.end → Gaps r old (take (i + 1) given) (gaps ++ record { start = start; end = n } ∷ []) (n + 1)
  pushed le less =
      let gap : Range = record { start = start; end = n } in
      record {
        begins = omega (arith, c.begins, le);
        found = λ p. (
          λ h. elim ((within_push gaps gap p).0 h) [
            | inl o ↦ elim ((c.found p).0 o) [
              | inl x ↦ inl x
              | inr w ↦ inr (w.0, omega (arith, w.1, le), λ g. elim (has p g) [ inl b ↦ w.2 b | inr e ↦ absurd (omega (arith, e, w.1, le)) ])
            ]
            | inr w ↦ inr (omega (arith, c.begins, w.0), omega (arith, w.1), λ g. elim (has p g) [ inl b ↦ absurd (omega (arith, c.before p b (omega (arith, w.1, less)), w.0)) | inr e ↦ absurd (omega (arith, e, w.1)) ])
          ],
          λ h. elim h [
            | inl o ↦ (within_push gaps gap p).1 (inl ((c.found p).1 (inl o)))
            | inr w ↦ elim (cases_lt p start) [
              | inl lt ↦ (within_push gaps gap p).1 (inl ((c.found p).1 (inr (w.0, lt, λ b. w.2 (keeps p (inl b))))))
              | inr ge ↦ elim (cases_eq n p) [
                | inl e ↦ absurd (w.2 (keeps p (inr e)))
                | inr ne ↦ (within_push gaps gap p).1 (inr (ge, omega (arith, ne, w.1)))
              ]
            ]
          ],
        );
        before = λ p g lt. elim (has p g) [ inl b ↦ omega (arith, c.before p b lt, le) | inr e ↦ omega (arith, e) ];
        last = inr (n, refl, keeps n (inr refl), less);
      }

  step : (a b : Bool) → nat_le start n ≡ a → nat_lt n r.end ≡ b → Gaps r old (take (i + 1) given) (gaps ++ cond (a && b) (record { start = start; end = n } ∷ []) []) (cond (a && b) (n + 1) start)
  step true true le less = pushed (grind (arith, nat_tests, le)) (grind (arith, nat_tests, less))
  step true false le past = subst (λ xs. Gaps r old (take (i + 1) given) xs start) (sym (append-nil gaps)) (kept (inr (grind (arith, nat_tests, past))))
  step false b less any = subst (λ xs. Gaps r old (take (i + 1) given) xs start) (sym (append-nil gaps)) (kept (inl (grind (arith, nat_tests, less))))

  pub gaps_more : (after : List Range) (rest : ℕ) → after ≡ gaps ++ gap_before start n r.end → rest ≡ start_after start n r.end → Gaps r old (take (i + 1) given) after rest
  gaps_more after rest one two =
      subst (λ xs. Gaps r old (take (i + 1) given) xs rest) (sym one) (subst (λ k. Gaps r old (take (i + 1) given) (gaps ++ gap_before start n r.end) k) (sym two) (step (nat_le start n) (nat_lt n r.end) refl refl))

-- and the rest
pub gaps_all : (r : Range) (old : List Range) (given : List ℕ) (gaps after : List Range) (start : ℕ) → Gaps r old given gaps start → after ≡ gaps ++ record { start = start; end = r.end } ∷ [] →
    (p : ℕ) → IsWithinAny after p ↔ (IsWithinAny old p ⊎ IsLeft r given p)
gaps_all r old given gaps after start c is p =
    let rest : Range = record { start = start; end = r.end } in
    let w = within_push gaps rest p in (
      λ h. elim (w.0 (subst (λ xs. IsWithinAny xs p) is h)) [
        | inl o ↦ elim ((c.found p).0 o) [
          | inl x ↦ inl x
          | inr f ↦ inr ((f.0, elim c.last [ inl e ↦ absurd (omega (arith, e, f.0, f.1)) | inr k ↦ omega (arith, k.1, k.3, f.1) ]), f.2)
        ]
        | inr l ↦ inr ((omega (arith, c.begins, l.0), l.1), λ g. absurd (omega (arith, c.before p g l.1, l.0)))
      ],
      λ h. subst (λ xs. IsWithinAny xs p) (sym is) (elim h [
        | inl o ↦ w.1 (inl ((c.found p).1 (inl o)))
        | inr f ↦ elim (cases_lt p start) [ inl lt ↦ w.1 (inl ((c.found p).1 (inr (f.0.0, lt, f.1)))) | inr ge ↦ w.1 (inr (ge, f.0.1)) ]
      ]),
    )

-- the same numbers in another order leave the same
pub left_by : (r : Range) (xs ys ys' : List ℕ) (old after : List Range) → IsPermutation xs ys → ys' ≡ ys → ((p : ℕ) → IsWithinAny after p ↔ (IsWithinAny old p ⊎ IsLeft r ys' p)) →
    (p : ℕ) → IsWithinAny after p ↔ (IsWithinAny old p ⊎ IsLeft r xs p)
left_by r xs ys ys' old after moved same is p = (
  λ h. elim ((is p).0 h) [ inl o ↦ inl o | inr l ↦ inr (l.0, λ c. l.1 (subst (λ zs. Contains zs p) (sym same) (Contains-permutation xs ys p moved c))) ],
  λ h. elim h [ inl o ↦ (is p).1 (inl o) | inr l ↦ (is p).1 (inr (l.0, λ c. l.1 (Contains-permutation ys xs p (IsPermutation-sym xs ys moved) (subst (λ zs. Contains zs p) same c)))) ],
)

pub lack_none : AreMissing [] []
lack_none p = (λ h. absurd (Contains-nil h.0 h.1), λ h. absurd (Contains-nil h.0 h.1))

-- one object more
pub lack_more : {A : Type 0} (g : A → ObjectValue) (xs : List A) (i : ℕ) (x : A) (before after : List Range) → i < length xs → get_or xs i x ≡ x → AreMissing (map g (take i xs)) before →
    ((p : ℕ) → IsWithinAny after p ↔ (IsWithinAny before p ⊎ IsMissing (g x) p)) → AreMissing (map g (take (i + 1) xs)) after
lack_more g xs i x before after lt at_i was is =
    let t : map g (take (i + 1) xs) ≡ map g (take i xs) ++ g x ∷ [] = ap (map g) (take_more xs i x lt ∙ ap (λ z. take i xs ++ z ∷ []) at_i) ∙ map_push g (take i xs) x in
    subst (λ all. AreMissing all after) (sym t) (λ p. (
      λ h. elim ((is p).0 h) [
        | inl o ↦ let f = (was p).0 o in (f.0, Contains-append_left (map g (take i xs)) (g x ∷ []) f.0 f.1, f.2)
        | inr l ↦ (g x, Contains-push (map g (take i xs)) (g x), l)
      ],
      λ h. elim (Contains-push_cases (map g (take i xs)) (g x) h.0 h.1) [
        | inl o ↦ (is p).1 (inl ((was p).1 (h.0, o, h.2)))
        | inr e ↦ (is p).1 (inr (subst (λ y. IsMissing y p) (sym e) h.2))
      ],
    ))

-- the objects of one field more
pub ranges_more : (objects : List NumberedObject) (fields : List (Sited InputValueDefinition)) (before after : List (List Range)) (row : List Range) (i : ℕ) → length before ≡ i → after ≡ before ++ row ∷ [] →
    ((k : ℕ) (d : Sited InputValueDefinition) → k < i → AreMissing (default_values objects (get_or fields k d)) (get_or before k [])) → ((d : Sited InputValueDefinition) → AreMissing (default_values objects (get_or fields i d)) row) →
    (k : ℕ) (d : Sited InputValueDefinition) → k < i + 1 → AreMissing (default_values objects (get_or fields k d)) (get_or after k [])
ranges_more objects fields before after row i len is was here k d lt = subst (λ rows. AreMissing (default_values objects (get_or fields k d)) (get_or rows k [])) (sym is) (elim (cases_lt k i) [
  | inl less ↦ subst (λ rs. AreMissing (default_values objects (get_or fields k d)) rs) (sym (get_or_append_left before (row ∷ []) [] k (omega (arith, less, len)))) (was k d less)
  | inr le ↦
      let e : k ≡ i = omega (arith, le, lt) in
      let at_k : get_or (before ++ row ∷ []) k [] ≡ row = ap (λ x. get_or (before ++ row ∷ []) x []) (e ∙ sym len) ∙ get_or-append_seam before row [] [] in
      subst (λ rs. AreMissing (default_values objects (get_or fields k d)) rs) (sym at_k) (subst (λ x. AreMissing (default_values objects (get_or fields x d)) row) (sym e) (here d))
])
