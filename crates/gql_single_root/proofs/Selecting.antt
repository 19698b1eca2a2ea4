-- The fields and the spreads at the root of a selection set are those of its selections.
use Rattle.std.specs.Prelude.{◌≡◌, ◌<◌, ◌+◌, ◌⊎◌, ℕ, List, [], ◌∷◌, ◌++◌, take, length, Bool, true, false, Contains, refl, if◌then◌else◌}
use Rattle.std.proofs.Common.{ap, sym, ◌∙◌, subst, inl, inr, get_or, append-nil, true≢false}
use Rattle.std.proofs.lemmas.List.Elements.{Contains-append_left, Contains-append_right, Contains-append_cases}
use Rattle.gql_ast.specs.declared.executable.Field.{Field}
use Rattle.gql_ast.specs.declared.executable.InlineFragment.{InlineFragment}
use Rattle.gql_ast.specs.declared.executable.Selection.{Selection, out-Selection}
use Rattle.gql_ast.specs.declared.executable.Selection.TheOpen.{Selection-F}
use Rattle.gql_ast.specs.declared.executable.Selection.TheVariants as s
use Rattle.gql_ast.specs.declared.executable.Spread.{Spread}
use Rattle.gql_facts.specs.ListMembers.{Contains-nil, Contains-here}
use Rattle.gql_facts.specs.Worlds.{Facts}
use Rattle.gql_single_root.specs.RootSelections.{IsAtRootOf, own, inside, Adds, is_kept, is_kept_at}
use Rattle.gql_single_root.specs.V30SingleRootField.{stays, applies}
use Rattle.gql_single_root.proofs.Lists.{one, taken_cases, taken_old, taken_new}

-- ---- forms

pub no_inline : (f : Field) (i : InlineFragment) → s.Field f ≡ s.InlineFragment i → ⊥
no_inline f i e = let h : Selection-F.Field f ≡ Selection-F.InlineFragment i = sym (s.outs-Field f) ∙ ap out-Selection e ∙ s.outs-InlineFragment i in cc h

pub no_inline_spread : (x : Spread) (i : InlineFragment) → s.Spread x ≡ s.InlineFragment i → ⊥
no_inline_spread x i e = let h : Selection-F.Spread x ≡ Selection-F.InlineFragment i = sym (s.outs-Spread x) ∙ ap out-Selection e ∙ s.outs-InlineFragment i in cc h

pub no_spread : (f : Field) (x : Spread) → s.Field f ≡ s.Spread x → ⊥
no_spread f x e = let h : Selection-F.Field f ≡ Selection-F.Spread x = sym (s.outs-Field f) ∙ ap out-Selection e ∙ s.outs-Spread x in cc h

pub one_field : (f g : Field) → s.Field f ≡ s.Field g → f ≡ g
one_field f g e = let h : Selection-F.Field f ≡ Selection-F.Field g = sym (s.outs-Field f) ∙ ap out-Selection e ∙ s.outs-Field g in cc h

pub one_spread : (x y : Spread) → s.Spread x ≡ s.Spread y → x ≡ y
one_spread x y e = let h : Selection-F.Spread x ≡ Selection-F.Spread y = sym (s.outs-Spread x) ∙ ap out-Selection e ∙ s.outs-Spread y in cc h

pub one_inline : (i j : InlineFragment) → s.InlineFragment i ≡ s.InlineFragment j → i ≡ j
one_inline i j e = let h : Selection-F.InlineFragment i ≡ Selection-F.InlineFragment j = sym (s.outs-InlineFragment i) ∙ ap out-Selection e ∙ s.outs-InlineFragment j in cc h

pub kept_field : (f : Field) → is_kept (s.Field f) ≡ stays f.directives
kept_field f = ap is_kept_at (s.outs-Field f)

pub kept_spread : (x : Spread) → is_kept (s.Spread x) ≡ stays x.directives
kept_spread x = ap is_kept_at (s.outs-Spread x)

pub kept_inline : (i : InlineFragment) → is_kept (s.InlineFragment i) ≡ false
kept_inline i = ap is_kept_at (s.outs-InlineFragment i)

-- ---- what was added

pub adds_none : {A : Type 0} (P : A → Type 0) (xs : List A) → ((x : A) → P x → ⊥) → Adds P xs xs
adds_none P xs none = record { kept = λ x h. h; has = λ x p. absurd (none x p); from = λ x h. inl h }

-- added in two parts
pub adds_two : {A : Type 0} (P Q R : A → Type 0) (a b c : List A) → ((x : A) → R x → P x ⊎ Q x) → ((x : A) → P x → R x) → ((x : A) → Q x → R x)
    → Adds P a b → Adds Q b c → Adds R a c
adds_two P Q R a b c split left right first second = record {
  kept = λ x h. second.kept x (first.kept x h);
  has = λ x r. elim (split x r) [ inl p ↦ second.kept x (first.has x p) | inr q ↦ second.has x q ];
  from = λ x h. elim (second.from x h) [
    | inl o ↦ elim (first.from x o) [ inl z ↦ inl z | inr p ↦ inr (left x p) ]
    | inr q ↦ inr (right x q)
  ];
}

-- the same, said in another way
pub adds_by : {A : Type 0} (P Q : A → Type 0) (a b : List A) → ((x : A) → P x → Q x) → ((x : A) → Q x → P x) → Adds P a b → Adds Q a b
adds_by P Q a b there back adds = record {
  kept = adds.kept;
  has = λ x q. adds.has x (back x q);
  from = λ x h. elim (adds.from x h) [ inl o ↦ inl o | inr p ↦ inr (there x p) ];
}

-- one is added, if the test holds
pub adds_if : {A : Type 0} (P : A → Type 0) (x : A) (b : Bool) (old new : List A) → new ≡ old ++ (if b then x ∷ [] else [])
    → ((y : A) → P y → (b ≡ true) × (y ≡ x)) → (b ≡ true → P x) → Adds P old new
adds_if P x true old new is out into = record {
  kept = λ y h. subst (λ l. Contains l y) (sym is) (Contains-append_left old (x ∷ []) y h);
  has = λ y p. subst (λ l. Contains l y) (sym is) (Contains-append_right old (x ∷ []) y (subst (λ z. Contains (x ∷ []) z) (sym (out y p).1) (Contains-here x [])));
  from = λ y h. elim (Contains-append_cases old (x ∷ []) y (subst (λ l. Contains l y) is h)) [
    | inl a ↦ inl a
    | inr c ↦ inr (subst P (sym (one x y c)) (into refl))
  ];
}
adds_if P x false old new is out into = record {
  kept = λ y h. subst (λ l. Contains l y) (sym (is ∙ append-nil old)) h;
  has = λ y p. absurd (true≢false (sym (out y p).0));
  from = λ y h. inl (subst (λ l. Contains l y) (is ∙ append-nil old) h);
}

module _ (F : Facts) (root : List ℕ) where
  -- of more selections
  pub wider : (xs ys : List Selection) (y : Selection) → ((x : Selection) → Contains xs x → Contains ys x)
      → IsAtRootOf F root xs y → IsAtRootOf F root ys y
  wider xs ys y w (own c k) = own (w y c) k
  wider xs ys y w (inside {i = i} c k a h) = inside (w (s.InlineFragment i) c) k a h

  -- of two lists
  split : (xs ys zs : List Selection) (y : Selection) → ((x : Selection) → Contains zs x → Contains xs x ⊎ Contains ys x)
      → IsAtRootOf F root zs y → IsAtRootOf F root xs y ⊎ IsAtRootOf F root ys y
  split xs ys zs y cases (own c k) = elim (cases y c) [ inl a ↦ inl (own a k) | inr b ↦ inr (own b k) ]
  split xs ys zs y cases (inside {i = i} c k a h) = elim (cases (s.InlineFragment i) c) [ inl l ↦ inl (inside l k a h) | inr r ↦ inr (inside r k a h) ]

  no_selections : (set : List Selection) (y : Selection) → set ≡ [] → IsAtRootOf F root set y → ⊥
  no_selections set y empty (own c k) = Contains-nil y (subst (λ l. Contains l y) empty c)
  no_selections set y empty (inside {i = i} c k a h) = Contains-nil (s.InlineFragment i) (subst (λ l. Contains l (s.InlineFragment i)) empty c)

  pub at_first : (set : List Selection) (xs : List Selection) → set ≡ [] → Adds (IsAtRootOf F root set) xs xs
  at_first set xs empty = adds_none (IsAtRootOf F root set) xs (λ y h. no_selections set y empty h)

  -- one selection more
  pub one_on : (set : List Selection) (i : ℕ) (x : Selection) (a b c : List Selection) → i < length set → get_or set i x ≡ x
      → Adds (IsAtRootOf F root (take i set)) a b → Adds (IsAtRootOf F root (x ∷ [])) b c → Adds (IsAtRootOf F root (take (i + 1) set)) a c
  one_on set i x a b c within item =
      adds_two (IsAtRootOf F root (take i set)) (IsAtRootOf F root (x ∷ [])) (IsAtRootOf F root (take (i + 1) set)) a b c
      (λ y h. split (take i set) (x ∷ []) (take (i + 1) set) y (λ z q. elim (taken_cases set i x z within item q) [
        | inl l ↦ inl l
        | inr e ↦ inr (subst (λ w. Contains (x ∷ []) w) (sym e) (Contains-here x []))
      ]) h)
      (λ y h. wider (take i set) (take (i + 1) set) y (λ z q. taken_old set i x z within item q) h)
      (λ y h. wider (x ∷ []) (take (i + 1) set) y (λ z q. subst (λ w. Contains (take (i + 1) set) w) (sym (one x z q)) (taken_new set i x within item)) h)

  -- ---- one selection

  alone : (x y : Selection) → ((i : InlineFragment) → x ≡ s.InlineFragment i → ⊥) → IsAtRootOf F root (x ∷ []) y → (is_kept x ≡ true) × (y ≡ x)
  alone x y other (own c k) = (subst (λ z. is_kept z ≡ true) (one x y c) k, one x y c)
  alone x y other (inside {i = i} c k a h) = absurd (other i (sym (one x (s.InlineFragment i) c)))

  pub of_kept : (x : Selection) (old new : List Selection) → ((i : InlineFragment) → x ≡ s.InlineFragment i → ⊥)
      → new ≡ old ++ (if is_kept x then x ∷ [] else []) → Adds (IsAtRootOf F root (x ∷ [])) old new
  of_kept x old new other is =
      adds_if (IsAtRootOf F root (x ∷ [])) x (is_kept x) old new is (λ y h. alone x y other h) (λ k. own (Contains-here x []) k)

  -- ---- an inline fragment

  pub record InInline (i : InlineFragment) (y : Selection) : Type 0 where
    pub staying : stays i.directives ≡ true
    pub applied : applies F root i.condition ≡ true
    pub within : IsAtRootOf F root i.selections y

  inline_case : (x : Selection) (i : InlineFragment) (y : Selection) → x ≡ s.InlineFragment i → IsAtRootOf F root (x ∷ []) y → InInline i y
  inline_case x i y is (own c k) =
      absurd (true≢false (sym (subst (λ z. is_kept z ≡ true) (one x y c ∙ is) k) ∙ kept_inline i))
  inline_case x i y is (inside {i = j} c k a h) =
      let same : j ≡ i = one_inline j i (one x (s.InlineFragment j) c ∙ is) in
      subst (λ z. InInline z y) same (record { staying = k; applied = a; within = h })

  pub in_inline : (i : InlineFragment) (y : Selection) → IsAtRootOf F root (s.InlineFragment i ∷ []) y → InInline i y
  in_inline i y h = inline_case (s.InlineFragment i) i y refl h

  pub inline_gone : (i : InlineFragment) (xs : List Selection) → stays i.directives ≡ false → Adds (IsAtRootOf F root (s.InlineFragment i ∷ [])) xs xs
  inline_gone i xs off = adds_none (IsAtRootOf F root (s.InlineFragment i ∷ [])) xs (λ y h. true≢false (sym (in_inline i y h).staying ∙ off))

  pub inline_apart : (i : InlineFragment) (xs : List Selection) → applies F root i.condition ≡ false → Adds (IsAtRootOf F root (s.InlineFragment i ∷ [])) xs xs
  inline_apart i xs off = adds_none (IsAtRootOf F root (s.InlineFragment i ∷ [])) xs (λ y h. true≢false (sym (in_inline i y h).applied ∙ off))

  pub inline_in : (i : InlineFragment) (a b : List Selection) → stays i.directives ≡ true → applies F root i.condition ≡ true
      → Adds (IsAtRootOf F root i.selections) a b → Adds (IsAtRootOf F root (s.InlineFragment i ∷ [])) a b
  inline_in i a b k on = adds_by (IsAtRootOf F root i.selections) (IsAtRootOf F root (s.InlineFragment i ∷ [])) a b
      (λ y h. inside (Contains-here (s.InlineFragment i) []) k on h) (λ y h. (in_inline i y h).within)

  pub of_inline : (x : Selection) (i : InlineFragment) (a b : List Selection) → x ≡ s.InlineFragment i
      → Adds (IsAtRootOf F root (s.InlineFragment i ∷ [])) a b → Adds (IsAtRootOf F root (x ∷ [])) a b
  of_inline x i a b is h = subst (λ z. Adds (IsAtRootOf F root (z ∷ [])) a b) (sym is) h

  -- as the clauses of the calls give it
  pub inline_done : (G : Facts) (i : InlineFragment) (ys a b : List Selection) → G ≡ F → ys ≡ i.selections → stays i.directives ≡ true → applies F root i.condition ≡ true
      → Adds (IsAtRootOf G root ys) a b → Adds (IsAtRootOf F root (s.InlineFragment i ∷ [])) a b
  inline_done G i ys a b same listed k on h =
      inline_in i a b k on (subst (λ l. Adds (IsAtRootOf F root l) a b) listed (subst (λ H. Adds (IsAtRootOf H root ys) a b) same h))

  pub one_done : (G : Facts) (set : List Selection) (i : ℕ) (x : Selection) (a b c : List Selection) → i < length set → get_or set i x ≡ x → G ≡ F
      → Adds (IsAtRootOf F root (take i set)) a b → Adds (IsAtRootOf G root (x ∷ [])) b c → Adds (IsAtRootOf F root (take (i + 1) set)) a c
  one_done G set i x a b c within item same before one' =
      one_on set i x a b c within item before (subst (λ H. Adds (IsAtRootOf H root (x ∷ [])) b c) same one')
