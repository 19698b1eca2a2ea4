-- The first field of a name, and the fields that are there.
use Rattle.std.proofs.Common.{◌≡◌, ℕ, ◌+◌, ◌<◌, ◌≤◌, ◌⊎◌, ◌++◌, inl, inr, List, [], ◌∷◌, Bool, true, false, cond, nat_lt, Some, None, is_some, find, bytes_eq, map, option_map, Contains, length, get_or, set, take, replicate, sym, ap, ◌∙◌, subst, refl, arith, append-nil}
use Rattle.std.specs.Option.{option_map_or}
use Rattle.std.proofs.Math.ListN.{length-set}
use Rattle.std.proofs.lemmas.Bool.{cases_eq, cases_lt, lt-ltb}
use Rattle.std.proofs.lemmas.Bool.Decides.{nat_tests}
use Rattle.std.proofs.lemmas.List.{get_or_default, get_or-replicate, get_or_past, get_or-set_same, get_or-set_other, length-map, length-replicate, map-set}
use Rattle.std.proofs.lemmas.List.Elements.{Contains-append_left, Contains-push, Contains-push_cases}
use Rattle.gql_cycles.proofs.Members.{Contains-nil, read_at, take_has, take_kept}
use Rattle.gql_iface_rules.proofs.S19Steps.{find-map}
use Rattle.gql_iface_rules.specs.S19DefaultValueCycles.{Numbered, NumberedObject}
use Rattle.gql_iface_rules.specs.S19Ends.{end_of, with_end, Rows}
use Rattle.gql_iface_rules.specs.S19Inputs.{numbered}
use Rattle.gql_iface_rules.specs.S19Ranges.{first_number}
use Rattle.gql_iface_rules.specs.declared.s19_ends.End.{End}
use Rattle.gql_iface_rules.specs.declared.s19_inputs.NumberedInput.{NumberedInput}

-- what the look-up of a name found
pub first_some : (inputs : List NumberedInput) (name : List ℕ) (y : NumberedInput) → Some y ≡ find (λ i. bytes_eq name i.field.now.node.name.text) inputs → first_number (map numbered inputs) name ≡ y.number ∷ []
first_some inputs name y e = ap (λ o. option_map_or (λ (i : Numbered). i.number ∷ []) o []) (find-map numbered (λ (i : Numbered). bytes_eq name i.field.node.name.text) inputs ∙ ap (option_map numbered) (sym e))

pub first_nil : (inputs : List NumberedInput) (name : List ℕ) → None ≡ find (λ i. bytes_eq name i.field.now.node.name.text) inputs → first_number (map numbered inputs) name ≡ []
first_nil inputs name e = ap (λ o. option_map_or (λ (i : Numbered). i.number ∷ []) o []) (find-map numbered (λ (i : Numbered). bytes_eq name i.field.node.name.text) inputs ∙ ap (option_map numbered) (sym e))

pub nothing_added : {A : Type 0} (xs ys : List A) → ys ≡ [] → xs ≡ xs ++ ys
nothing_added xs ys e = sym (ap (λ zs. xs ++ zs) e ∙ append-nil xs)

end_at : (o : NumberedObject) (i : Numbered) (numbers : List ℕ) → is_some i.field.node.default ≡ true → first_number o.inputs i.field.node.name.text ≡ numbers → end_of o i ≡ map (λ n. record { first = n; number = i.number }) numbers
end_at o i numbers some is = rw some (ap (map (λ n. record { first = n; number = i.number })) is)

pub end_some : (o : NumberedObject) (i : Numbered) (n : ℕ) (before after : List End) → is_some i.field.node.default ≡ true → first_number o.inputs i.field.node.name.text ≡ n ∷ [] →
    after ≡ before ++ record { first = n; number = i.number } ∷ [] → after ≡ before ++ end_of o i
end_some o i n before after some is added = added ∙ ap (λ xs. before ++ xs) (sym (end_at o i (n ∷ []) some is))

pub end_none : (o : NumberedObject) (i : Numbered) (before : List End) → is_some i.field.node.default ≡ true → first_number o.inputs i.field.node.name.text ≡ [] → before ≡ before ++ end_of o i
end_none o i before some is = nothing_added before (end_of o i) (end_at o i [] some is)

-- a row with a field more
pub put_is : {A : Type 0} (f : A → List ℕ) (rows : List A) (e : End) (x y : A) → e.first < length rows → x ≡ get_or rows e.first x → f y ≡ f x ++ e.number ∷ [] → map f (set rows e.first y) ≡ with_end e (map f rows)
put_is f rows e x y lt at is =
    let t = lt-ltb e.first (length (map f rows)) (omega (arith, lt, length-map rows f)) in
    map-set f rows e.first y ∙ ap (set (map f rows) e.first) (is ∙ ap (λ xs. xs ++ e.number ∷ []) (sym (read_at f rows e.first x [] lt at)))
    ∙ sym (ap (λ b. cond b (set (map f rows) e.first (get_or (map f rows) e.first [] ++ e.number ∷ [])) (map f rows)) t)

-- rows, one field more
eta : (e : End) → record { first = e.first; number = e.number } ≡ e
eta e = refl

pub rows_none : (count : ℕ) → Rows count [] (replicate count [])
rows_none count = record {
  length_is = length-replicate count [];
  has = λ p k. (
    λ h. elim (cases_lt p count) [
      | inl lt ↦ absurd (Contains-nil k (subst (λ xs. Contains xs k) (get_or-replicate count p [] [] lt) h))
      | inr ge ↦ absurd (Contains-nil k (subst (λ xs. Contains xs k) (get_or_past (replicate count []) p [] (omega (arith, ge, length-replicate {A = List ℕ} count []))) h))
    ],
    λ h. absurd (Contains-nil (record { first = p; number = k }) h.1),
  );
}

module _ (count : ℕ) (ends : List End) (i : ℕ) (d : End) (within : i < length ends) (rows : List (List ℕ)) (r : Rows count (take i ends) rows) where
  abbrev e : End
  e = get_or ends i d

  item : get_or ends i e ≡ e
  item = get_or_default ends i e d within

  abbrev row : List ℕ
  row = get_or rows e.first [] ++ e.number ∷ []

  has_more : (x : End) → Contains (take (i + 1) ends) x → Contains (take i ends) x ⊎ (e ≡ x)
  has_more x h = take_has ends i e x within item h

  keeps : (x : End) → Contains (take i ends) x ⊎ (e ≡ x) → Contains (take (i + 1) ends) x
  keeps x h = take_kept ends i e x within item h

  there : (p k : ℕ) → e.first < length rows → Contains (get_or (set rows e.first row) p []) k → (p < count) × Contains (take (i + 1) ends) (record { first = p; number = k })
  there p k lt h = elim (cases_eq p e.first) [
    | inl same ↦
        let c : Contains row k = subst (λ xs. Contains xs k) (ap (λ q. get_or (set rows e.first row) q []) same ∙ get_or-set_same rows e.first row [] lt) h in
        elim (Contains-push_cases (get_or rows e.first []) e.number k c) [
          | inl o ↦ let w = (r.has p k).0 (subst (λ q. Contains (get_or rows q []) k) (sym same) o) in (w.0, keeps (record { first = p; number = k }) (inl w.1))
          | inr last ↦ (omega (arith, same, lt, r.length_is), keeps (record { first = p; number = k }) (inr (sym (ap (λ q. record { first = q; number = k }) same ∙ ap (λ q. record { first = e.first; number = q }) (sym last)))))
        ]
    | inr other ↦ let w = (r.has p k).0 (subst (λ xs. Contains xs k) (get_or-set_other rows e.first p row [] other) h) in (w.0, keeps (record { first = p; number = k }) (inl w.1))
  ]

  back : (p k : ℕ) → e.first < length rows → (p < count) × Contains (take (i + 1) ends) (record { first = p; number = k }) → Contains (get_or (set rows e.first row) p []) k
  back p k lt h = elim (has_more (record { first = p; number = k }) h.1) [
    | inl o ↦ elim (cases_eq p e.first) [
      | inl same ↦ subst (λ xs. Contains xs k) (sym (ap (λ q. get_or (set rows e.first row) q []) same ∙ get_or-set_same rows e.first row [] lt))
          (Contains-append_left (get_or rows e.first []) (e.number ∷ []) k (subst (λ q. Contains (get_or rows q []) k) same ((r.has p k).1 (h.0, o))))
      | inr other ↦ subst (λ xs. Contains xs k) (sym (get_or-set_other rows e.first p row [] other)) ((r.has p k).1 (h.0, o))
    ]
    | inr is ↦
        let same : p ≡ e.first = sym (ap (λ (x : End). x.first) is) in
        let last : e.number ≡ k = ap (λ (x : End). x.number) is in
        subst (λ xs. Contains xs k) (sym (ap (λ q. get_or (set rows e.first row) q []) same ∙ get_or-set_same rows e.first row [] lt)) (subst (λ q. Contains row q) last (Contains-push (get_or rows e.first []) e.number))
  ]

  step : (b : Bool) → nat_lt e.first (length rows) ≡ b → Rows count (take (i + 1) ends) (cond b (set rows e.first row) rows)
  step true is =
      let lt : e.first < length rows = grind (arith, nat_tests, is) in
      record { length_is = length-set rows e.first row ∙ r.length_is; has = λ p k. (there p k lt, back p k lt) }
  step false is =
      let le : length rows ≤ e.first = grind (arith, nat_tests, is) in
      record {
        length_is = r.length_is;
        has = λ p k. (
          λ h. let w = (r.has p k).0 h in (w.0, keeps (record { first = p; number = k }) (inl w.1)),
          λ h. elim (has_more (record { first = p; number = k }) h.1) [
            | inl o ↦ (r.has p k).1 (h.0, o)
            | inr is ↦ let same : e.first ≡ p = ap (λ (x : End). x.first) is in absurd (omega (arith, same, le, h.0, r.length_is))
          ],
        );
      }

  pub rows_more : (after : List (List ℕ)) → after ≡ with_end e rows → Rows count (take (i + 1) ends) after
  rows_more after is = subst (λ xs. Rows count (take (i + 1) ends) xs) (sym is) (step (nat_lt e.first (length rows)) refl)
