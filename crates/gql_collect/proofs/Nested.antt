-- Selections that lead to no cycle of fragments nest at some depth.
use Rattle.std.proofs.Common.{◌≡◌, ◌⊎◌, ◌+◌, ◌≤◌, ◌<◌, ℕ, zero, suc, List, [], ◌∷◌, ◌++◌, Bool, true, false, ◌||◌, if◌then◌else◌, Option, Some, None, map, find, bytes_eq, Contains, refl, sym, ap, ◌∙◌, subst, inl, inr, arith}
use Rattle.std.proofs.lemmas.List.Elements.{Contains-append_left, Contains-append_right}
use Rattle.std.proofs.lemmas.List.Folds.{list_any-append}
use Rattle.gql_ast.specs.declared.executable.Field.{Field}
use Rattle.gql_ast.specs.declared.executable.InlineFragment.{InlineFragment}
use Rattle.gql_ast.specs.declared.executable.Selection.{Selection, fold-Selection}
use Rattle.gql_ast.specs.declared.executable.Selection.TheFolds.{fold-roll-Selection, fold_out-Field, fold_out-InlineFragment, fold_out-Selection}
use Rattle.gql_ast.specs.declared.executable.Selection.TheOpen.{Selection-F, Field-F, InlineFragment-F}
use Rattle.gql_ast.specs.declared.executable.Selection.TheVariants as s
use Rattle.gql_ast.specs.declared.executable.Spread.{Spread}
use Rattle.gql_facts.specs.ListMembers.{Contains-nil, Contains-here, Contains-there, Contains-cases}
use Rattle.gql_facts.specs.declared.fact.FragmentFact.{FragmentFact}
use Rattle.gql_collect.specs.Nesting.{Nests, AllNest, of_field, of_inline, of_spread}
use Rattle.gql_collect.specs.Spreads.{LeadsTo, spread, further, NoCycles, own_selections, selections_in, spreads, spreads_of, spreads_field, spreads_inline, spreads_spread}
use Rattle.gql_collect.specs.Unfolding.{Given, fragment_named}
use Rattle.gql_collect.specs.Walks.{is_in, total}
use Rattle.gql_collect.proofs.Ending.{Form, form}
use Rattle.gql_collect.proofs.Ending as ending
use Rattle.std.proofs.lemmas.Slice.Eq.{bytes_eq-Decides}
use Rattle.std.specs.Cmp.Lexicographic.{nat_list_eq_equiv}
use Rattle.gql_collect.proofs.Firsts.{either}
use Rattle.gql_collect.proofs.Walking.{grown}

-- ---- how large selections are, with all below their fields

abbrev whole_at : Selection-F ℕ ℕ ℕ → ℕ
whole_at (Selection-F.Field below) = below + 1
whole_at (Selection-F.Spread x) = 1
whole_at (Selection-F.InlineFragment below) = below + 1

abbrev whole_of_field : Field-F ℕ ℕ ℕ → ℕ
whole_of_field f = total f.selections

abbrev whole_of_inline : InlineFragment-F ℕ ℕ ℕ → ℕ
whole_of_inline i = total i.selections

unfoldable whole : Selection → ℕ
whole = fold-Selection ℕ ℕ ℕ whole_at whole_of_field whole_of_inline

abbrev wholes : List Selection → ℕ
wholes xs = total (map whole xs)

whole_field : (f : Field) → whole (s.Field f) ≡ wholes f.selections + 1
unfolding whole
whole_field f = ap whole (sym (s.rolls-Field f))
    ∙ fold-roll-Selection ℕ ℕ ℕ whole_at whole_of_field whole_of_inline (Selection-F.Field f)
    ∙ ap (λ n. n + 1) (fold_out-Field ℕ ℕ ℕ whole_at whole_of_field whole_of_inline f)

whole_inline : (i : InlineFragment) → whole (s.InlineFragment i) ≡ wholes i.selections + 1
unfolding whole
whole_inline i = ap whole (sym (s.rolls-InlineFragment i))
    ∙ fold-roll-Selection ℕ ℕ ℕ whole_at whole_of_field whole_of_inline (Selection-F.InlineFragment i)
    ∙ ap (λ n. n + 1) (fold_out-InlineFragment ℕ ℕ ℕ whole_at whole_of_field whole_of_inline i)

one_at : (x : Selection-F ℕ ℕ ℕ) → 1 ≤ whole_at x
one_at (Selection-F.Field n) = omega arith
one_at (Selection-F.Spread x) = omega arith
one_at (Selection-F.InlineFragment n) = omega arith

whole_one : (x : Selection) → 1 ≤ whole x
unfolding whole
whole_one x = subst (λ n. 1 ≤ n) (sym (fold_out-Selection ℕ ℕ ℕ whole_at whole_of_field whole_of_inline x)) (one_at _)

-- the fragments whose names are not among these
abbrev left_of : List FragmentFact → List (List ℕ) → ℕ
left_of fragments names = total (map (λ (f : FragmentFact).
    if is_in f.fragment.name.text names then 0 else wholes f.fragment.selections) fragments)

-- a name more leaves no more fragments
fewer : (fs : List FragmentFact) (names : List (List ℕ)) (name : List ℕ) → left_of fs (names ++ name ∷ []) ≤ left_of fs names
fewer [] names name = omega arith
fewer (f ∷ fs) names name = by (is_in f.fragment.name.text names) (is_in f.fragment.name.text (names ++ name ∷ []))
    (list_any-append (bytes_eq f.fragment.name.text) names (name ∷ [])) (fewer fs names name) where
      by : (a b : Bool) → b ≡ (a || (bytes_eq f.fragment.name.text name || false)) → left_of fs (names ++ name ∷ []) ≤ left_of fs names
          → (if b then 0 else wholes f.fragment.selections) + left_of fs (names ++ name ∷ []) ≤ (if a then 0 else wholes f.fragment.selections) + left_of fs names
      by true true e h = omega (arith, h)
      by true false e h = absurd (cc e)
      by false true e h = omega (arith, h)
      by false false e h = omega (arith, h)

-- a fragment that is entered is left no more
entered : (fs : List FragmentFact) (names : List (List ℕ)) (name : List ℕ) → is_in name names ≡ false
    → left_of fs (names ++ name ∷ []) + wholes (selections_in (find (λ (f : FragmentFact). bytes_eq name f.fragment.name.text) fs)) ≤ left_of fs names
entered [] names name fresh = omega arith
entered (f ∷ fs) names name fresh = elim (either (bytes_eq name f.fragment.name.text)) [
  | inl h ↦
      let same = (bytes_eq-Decides name f.fragment.name.text).0 h in
      let before : is_in f.fragment.name.text names ≡ false = ap (λ q. is_in q names) (sym same) ∙ fresh in
      let hit : bytes_eq f.fragment.name.text name ≡ true = nat_list_eq_equiv.symm f.fragment.name.text name ∙ h in
      let after : is_in f.fragment.name.text (names ++ name ∷ []) ≡ true =
      list_any-append (bytes_eq f.fragment.name.text) names (name ∷ []) ∙ rw (before, hit) refl in
      let less = fewer fs names name in
      rw (h, before, after) (omega (arith, less))
  | inr h ↦
      let miss : bytes_eq f.fragment.name.text name ≡ false = nat_list_eq_equiv.symm f.fragment.name.text name ∙ h in
      let more = entered fs names name fresh in
      let alike : is_in f.fragment.name.text (names ++ name ∷ []) ≡ is_in f.fragment.name.text names =
      list_any-append (bytes_eq f.fragment.name.text) names (name ∷ []) ∙ rw miss (or_false (is_in f.fragment.name.text names)) in
      rw (h, alike) (omega (arith, more))
] where
  or_false : (b : Bool) → (b || false) ≡ b
  or_false true = refl
  or_false false = refl

-- ---- the walk

module _ (g : Given) (start : List Selection) (acyclic : NoCycles g start) where
  -- the names that were entered lead to what these selections spread
  record Free (names : List (List ℕ)) (xs : List Selection) : Type 0 where
    chain : (p m : List ℕ) → is_in p names ≡ true → Contains (spreads_of xs) m → LeadsTo g (own_selections g p) m
    from : (m : List ℕ) → Contains (spreads_of xs) m → LeadsTo g start m

  abbrev Within : List Selection → List Selection → Type 0
  Within ys xs = (m : List ℕ) → Contains (spreads_of ys) m → Contains (spreads_of xs) m

  narrowed : {names : List (List ℕ)} {xs ys : List Selection} → Within ys xs → Free names xs → Free names ys
  narrowed within free = record {
    chain = λ p m there c. free.chain p m there (within m c);
    from = λ m c. free.from m (within m c);
  }

  rest_within : (x : Selection) (xs : List Selection) → Within xs (x ∷ xs)
  rest_within x xs m c = Contains-append_right (spreads x) (spreads_of xs) m c

  below_within : (x : Selection) (ys xs : List Selection) → spreads x ≡ spreads_of ys → Within ys (x ∷ xs)
  below_within x ys xs e m c = Contains-append_left (spreads x) (spreads_of xs) m (subst (λ l. Contains l m) (sym e) c)

  entered_free : (names : List (List ℕ)) (xs : List Selection) (n : List ℕ) → Contains (spreads_of xs) n
      → Free names xs → Free (names ++ n ∷ []) (own_selections g n)
  entered_free names xs n there free = record {
    chain = λ p m h c. by p m (grown g [] names n p h) c;
    from = λ m c. further (free.from n there) c;
  } where
    by : (p m : List ℕ) → (is_in p names ≡ true) ⊎ (p ≡ n) → Contains (spreads_of (own_selections g n)) m → LeadsTo g (own_selections g p) m
    by p m (inl h) c = further (free.chain p n h there) c
    by p m (inr e) c = subst (λ q. LeadsTo g (own_selections g q) m) (sym e) (spread c)

  abbrev Walk : ℕ → Type 0
  Walk k = (names : List (List ℕ)) (xs : List Selection) → left_of g.fragments names + wholes xs ≤ k → Free names xs → AllNest g k xs

  module _ (k : ℕ) (walk : Walk k) (names : List (List ℕ)) (x : Selection) (xs : List Selection)
      (enough : left_of g.fragments names + (whole x + wholes xs) ≤ suc k) (free : Free names (x ∷ xs)) where
    in_field : (f : Field) → x ≡ s.Field f → Nests g (suc k) x
    in_field f is =
        let all : whole x ≡ wholes f.selections + 1 = ap whole is ∙ whole_field f in
        of_field f is (walk names f.selections (omega (arith, enough, all))
        (narrowed (below_within x f.selections xs (ap spreads is ∙ spreads_field f)) free))

    in_inline : (i : InlineFragment) → x ≡ s.InlineFragment i → Nests g (suc k) x
    in_inline i is =
        let all : whole x ≡ wholes i.selections + 1 = ap whole is ∙ whole_inline i in
        of_inline i is (walk names i.selections (omega (arith, enough, all))
        (narrowed (below_within x i.selections xs (ap spreads is ∙ spreads_inline i)) free))

    in_spread : (r : Spread) → x ≡ s.Spread r → Nests g (suc k) x
    in_spread r is = of_spread {k = k} r is (elim (either (is_in r.name.text names)) [
      | inl h ↦ absurd (acyclic r.name.text (free.from r.name.text there) (free.chain r.name.text r.name.text h there))
      | inr h ↦
          let less = entered g.fragments names r.name.text h in
          let one = whole_one x in
          walk (names ++ r.name.text ∷ []) (own_selections g r.name.text) (omega (arith, enough, less, one))
          (entered_free names (x ∷ xs) r.name.text there free)
    ]) where
      there : Contains (spreads_of (x ∷ xs)) r.name.text
      there = Contains-append_left (spreads x) (spreads_of xs) r.name.text
          (subst (λ l. Contains l r.name.text) (sym (spreads_spread r) ∙ ap spreads (sym is)) (Contains-here r.name.text []))

    this : Nests g (suc k) x
    this = by (form x) where
      by : Form x → Nests g (suc k) x
      by (ending.of_field f is) = in_field f is
      by (ending.of_spread r is) = in_spread r is
      by (ending.of_inline i is) = in_inline i is

  walk : (k : ℕ) → Walk k
  walk k names [] enough free x there = absurd (Contains-nil x there)
  walk zero names (x ∷ xs) enough free y there = let one = whole_one x in absurd (omega (arith, enough, one))
  walk (suc k) names (x ∷ xs) enough free y there = elim (Contains-cases y x xs there) [
    | inl e ↦ subst (Nests g (suc k)) (sym e) (this k (walk k) names x xs enough free)
    | inr t ↦ let one = whole_one x in walk (suc k) names xs (omega (arith, enough, one)) (narrowed (rest_within x xs) free) y t
  ]

-- all of them nest at some depth
pub all_nest : (g : Given) (xs : List Selection) → NoCycles g xs → (k : ℕ) × AllNest g k xs
all_nest g xs acyclic = (
  left_of g.fragments [] + wholes xs,
  walk g xs acyclic (left_of g.fragments [] + wholes xs) [] xs (omega arith) (record {
    chain = λ p m there c. absurd (cc there);
    from = λ m c. spread c;
  }),
)
