-- What a walk takes of selections, part by part.
use Rattle.std.specs.Prelude.{◌≡◌, ◌<◌, ◌≤◌, ◌+◌, ◌⊎◌, ℕ, List, [], ◌∷◌, ◌++◌, map, take, length, nat_eq, Option, Some, None, Contains, refl, true, false, option_and_then}
use Rattle.std.specs.Cmp.{unsigned_Decides}
use Rattle.std.specs.List.{list_any, slice_get}
use Rattle.std.proofs.Common.{ap, sym, ◌∙◌, subst, inl, inr, get_or, append-nil, Bor, true≢false}
use Rattle.std.proofs.lemmas.List.{take_all}
use Rattle.std.proofs.lemmas.List.Elements.{Contains-append_left, Contains-append_right, Contains-append_cases}
use Rattle.gql_ast.specs.declared.executable.Field.{Field}
use Rattle.gql_ast.specs.declared.executable.InlineFragment.{InlineFragment}
use Rattle.gql_ast.specs.declared.executable.Selection.{Selection}
use Rattle.gql_ast.specs.declared.executable.Selection.TheVariants as s
use Rattle.gql_ast.specs.declared.executable.Spread.{Spread}
use Rattle.gql_facts.specs.ListMembers.{Contains-nil, Contains-here, either}
use Rattle.gql_facts.specs.Worlds.{Facts}
use Rattle.gql_facts.specs.declared.fact.FragmentFact.{FragmentFact}
use Rattle.gql_single_root.specs.declared.walk.RootField.{RootField}
use Rattle.gql_single_root.specs.declared.walk.Walk.{Walk}
use Rattle.gql_single_root.specs.RootSelections.{Adds, IsAtRootOf}
use Rattle.gql_single_root.specs.V30SingleRootField.{is_possible}
use Rattle.gql_single_root.specs.Walks.{IsAtRootOfFragment, Takes, found_of, in_file, with_place}
use Rattle.gql_single_root.proofs.Lists.{append_assoc, inserted, map_end, one, taken}
use Rattle.gql_single_root.proofs.Selecting.{no_inline, no_inline_spread, no_spread, one_field, one_spread}

module _ (place : List ℕ → Option ℕ) (file : List ℕ) where
  pub takes_none : (P : Selection → Type 0) (old new : Walk) → ((y : Selection) → P y → ⊥)
      → new.entered.keys ≡ old.entered.keys → new.fields.items ≡ old.fields.items → Takes place file P old new
  takes_none P old new none keys fields = record {
    more = [];
    grown = keys ∙ sym (append-nil old.entered.keys);
    named = λ i h. absurd (Contains-nil i h);
    enters = λ x i p e. absurd (none (s.Spread x) p);
    kept = λ y h. subst (λ l. Contains (map found_of l) y) (sym fields) h;
    has = λ f p. absurd (none (s.Field f) p);
    from = λ y h. inl (subst (λ l. Contains (map found_of l) y) fields h);
  }

  pub takes_two : (P Q R : Selection → Type 0) (a b c : Walk) → ((y : Selection) → R y → P y ⊎ Q y) → ((y : Selection) → P y → R y) → ((y : Selection) → Q y → R y)
      → Takes place file P a b → Takes place file Q b c → Takes place file R a c
  takes_two P Q R a b c split left right first second = record {
    more = first.more ++ second.more;
    grown = second.grown ∙ ap (λ l. l ++ second.more) first.grown ∙ append_assoc a.entered.keys first.more second.more;
    named = λ i h. elim (Contains-append_cases first.more second.more i h) [
      | inl l ↦ let n = first.named i l in (n.0, left (s.Spread n.0) n.1, n.2)
      | inr r ↦ let n = second.named i r in (n.0, right (s.Spread n.0) n.1, n.2)
    ];
    enters = λ x i r e. elim (split (s.Spread x) r) [
      | inl p ↦ subst (λ l. Contains l i) (sym second.grown) (Contains-append_left b.entered.keys second.more i (first.enters x i p e))
      | inr q ↦ second.enters x i q e
    ];
    kept = λ y h. second.kept y (first.kept y h);
    has = λ f r. elim (split (s.Field f) r) [ inl p ↦ second.kept (in_file file f) (first.has f p) | inr q ↦ second.has f q ];
    from = λ y h. elim (second.from y h) [
      | inl o ↦ elim (first.from y o) [ inl z ↦ inl z | inr p ↦ inr (p.0, left (s.Field p.0) p.1, p.2) ]
      | inr q ↦ inr (q.0, right (s.Field q.0) q.1, q.2)
    ];
  }

  -- the same, said in another way
  pub takes_by : (P Q : Selection → Type 0) (a b : Walk) → ((y : Selection) → P y → Q y) → ((y : Selection) → Q y → P y)
      → Takes place file P a b → Takes place file Q a b
  takes_by P Q a b there back takes = record {
    more = takes.more;
    grown = takes.grown;
    named = λ i h. let n = takes.named i h in (n.0, there (s.Spread n.0) n.1, n.2);
    enters = λ x i q e. takes.enters x i (back (s.Spread x) q) e;
    kept = takes.kept;
    has = λ f q. takes.has f (back (s.Field f) q);
    from = λ y h. elim (takes.from y h) [ inl o ↦ inl o | inr p ↦ inr (p.0, there (s.Field p.0) p.1, p.2) ];
  }

  -- ---- one selection

  pub takes_field : (x : Selection) (f : Field) (r : RootField) (old new : Walk) → x ≡ s.Field f → found_of r ≡ in_file file f
      → new.entered.keys ≡ old.entered.keys → new.fields.items ≡ old.fields.items ++ r ∷ [] → Takes place file (Contains (x ∷ [])) old new
  takes_field x f r old new is found keys fields =
      let all : map found_of new.fields.items ≡ map found_of old.fields.items ++ in_file file f ∷ [] =
      ap (map found_of) fields ∙ map_end found_of old.fields.items r ∙ ap (λ z. map found_of old.fields.items ++ z ∷ []) found in
      record {
        more = [];
        grown = keys ∙ sym (append-nil old.entered.keys);
        named = λ i h. absurd (Contains-nil i h);
        enters = λ y i p e. absurd (no_spread f y (sym is ∙ sym (one x (s.Spread y) p)));
        kept = λ y h. subst (λ l. Contains l y) (sym all) (Contains-append_left (map found_of old.fields.items) (in_file file f ∷ []) y h);
        has = λ g p. subst (λ l. Contains l (in_file file g)) (sym all)
            (Contains-append_right (map found_of old.fields.items) (in_file file f ∷ []) (in_file file g)
            (subst (λ z. Contains (in_file file f ∷ []) (in_file file z)) (one_field f g (sym is ∙ sym (one x (s.Field g) p))) (Contains-here (in_file file f) [])));
        from = λ y h. elim (Contains-append_cases (map found_of old.fields.items) (in_file file f ∷ []) y (subst (λ l. Contains l y) all h)) [
          | inl l ↦ inl l
          | inr c ↦ inr (f, subst (λ z. Contains (x ∷ []) z) is (Contains-here x []), one (in_file file f) y c)
        ];
      }

  abbrev Grown : List ℕ → Option ℕ → Type 0
  Grown o p = (more : List ℕ) × (with_place o p ≡ o ++ more) × ((i : ℕ) → Contains more i → p ≡ Some i)

  with_more : (o : List ℕ) (p : Option ℕ) → Grown o p
  with_more o None = ([], sym (append-nil o), λ i h. absurd (Contains-nil i h))
  with_more o (Some k) = elim (either (list_any (nat_eq k) o)) [
    | inl q ↦ ([], rw q (sym (append-nil o)), λ i h. absurd (Contains-nil i h))
    | inr q ↦ (k ∷ [], rw q refl, λ i h. ap Some (sym (one k i h)))
  ]

  with_new : (o : List ℕ) (p : Option ℕ) (i : ℕ) → p ≡ Some i → Contains (with_place o p) i
  with_new o p i e = subst (λ q. Contains (with_place o q) i) (sym e) (inserted nat_eq (λ a b. unsigned_Decides a b) o i)

  pub takes_spread : (x : Selection) (y : Spread) (old new : Walk) → x ≡ s.Spread y
      → new.entered.keys ≡ with_place old.entered.keys (place y.name.text) → new.fields.items ≡ old.fields.items → Takes place file (Contains (x ∷ [])) old new
  takes_spread x y old new is keys fields =
      let w = with_more old.entered.keys (place y.name.text) in
      record {
        more = w.0;
        grown = keys ∙ w.1;
        named = λ i h. (y, subst (λ z. Contains (x ∷ []) z) is (Contains-here x []), w.2 i h);
        enters = λ z i p e.
            let same : z ≡ y = one_spread z y (one x (s.Spread z) p ∙ is) in
            subst (λ l. Contains l i) (sym keys) (with_new old.entered.keys (place y.name.text) i (ap (λ (q : Spread). place q.name.text) (sym same) ∙ e));
        kept = λ z h. subst (λ l. Contains (map found_of l) z) (sym fields) h;
        has = λ f p. absurd (no_spread f y (one x (s.Field f) p ∙ is));
        from = λ z h. inl (subst (λ l. Contains (map found_of l) z) fields h);
      }

  pub takes_inline : (x : Selection) (i : InlineFragment) (old new : Walk) → x ≡ s.InlineFragment i
      → new.entered.keys ≡ old.entered.keys → new.fields.items ≡ old.fields.items → Takes place file (Contains (x ∷ [])) old new
  takes_inline x i old new is keys fields = record {
    more = [];
    grown = keys ∙ sym (append-nil old.entered.keys);
    named = λ k h. absurd (Contains-nil k h);
    enters = λ y k p e. absurd (no_inline_spread y i (one x (s.Spread y) p ∙ is));
    kept = λ y h. subst (λ l. Contains (map found_of l) y) (sym fields) h;
    has = λ f p. absurd (no_inline f i (one x (s.Field f) p ∙ is));
    from = λ y h. inl (subst (λ l. Contains (map found_of l) y) fields h);
  }

  -- ---- all of some selections

  abbrev Among : List (Bor Selection) → Selection → Type 0
  Among xs = Contains (map (λ (b : Bor Selection). b.now) xs)

  now_taken : (xs : List (Bor Selection)) (i : ℕ) (x : Bor Selection) → i < length xs → get_or xs i x ≡ x
      → map (λ (b : Bor Selection). b.now) (take (i + 1) xs) ≡ map (λ (b : Bor Selection). b.now) (take i xs) ++ x.now ∷ []
  now_taken xs i x within item = ap (map (λ (b : Bor Selection). b.now)) (taken xs i x within item) ∙ map_end (λ (b : Bor Selection). b.now) (take i xs) x

  pub takes_first : (xs : List (Bor Selection)) (w : Walk) → xs ≡ [] → Takes place file (Among xs) w w
  takes_first xs w empty = takes_none (Among xs) w w (λ y h. Contains-nil y (subst (λ l. Among l y) empty h)) refl refl

  pub takes_more : (xs : List (Bor Selection)) (i : ℕ) (x : Bor Selection) (a b c : Walk) → i < length xs → get_or xs i x ≡ x
      → Takes place file (Among (take i xs)) a b → Takes place file (Contains (x.now ∷ [])) b c → Takes place file (Among (take (i + 1) xs)) a c
  takes_more xs i x a b c within item =
      let l : List Selection = map (λ (b : Bor Selection). b.now) (take i xs) in
      let all = now_taken xs i x within item in
      takes_two (Among (take i xs)) (Contains (x.now ∷ [])) (Among (take (i + 1) xs)) a b c
      (λ y h. Contains-append_cases l (x.now ∷ []) y (subst (λ z. Contains z y) all h))
      (λ y h. subst (λ z. Contains z y) (sym all) (Contains-append_left l (x.now ∷ []) y h))
      (λ y h. subst (λ z. Contains z y) (sym all) (Contains-append_right l (x.now ∷ []) y h))

  pub takes_all : (xs : List (Bor Selection)) (i : ℕ) (a b : Walk) → length xs ≤ i → Takes place file (Among (take i xs)) a b → Takes place file (Among xs) a b
  takes_all xs i a b le t = subst (λ l. Takes place file (Among l) a b) (take_all i xs le) t

  -- ---- what is at the root

  pub takes_root : (F : Facts) (root : List ℕ) (set : List Selection) (none found xs : List (Bor Selection)) (a b : Walk) → none ≡ []
      → Adds (IsAtRootOf F root set) (map (λ (b : Bor Selection). b.now) none) (map (λ (b : Bor Selection). b.now) found) → xs ≡ found
      → Takes place file (Among xs) a b → Takes place file (IsAtRootOf F root set) a b
  takes_root F root set none found xs a b empty adds listed t =
      takes_by (Among found) (IsAtRootOf F root set) a b
      (λ y h. elim (adds.from y h) [
        | inl o ↦ absurd (Contains-nil y (subst (λ l. Contains (map (λ (b : Bor Selection). b.now) l) y) empty o))
        | inr p ↦ p
      ])
      (λ y h. adds.has y h)
      (subst (λ l. Takes place file (Among l) a b) listed t)

module _ (place : List ℕ → Option ℕ) (F : Facts) (root : List ℕ) where
  pub fragment_apart : (g : FragmentFact) (w : Walk) → is_possible F root g.fragment.condition.text ≡ false → Takes place g.file (IsAtRootOfFragment F root g) w w
  fragment_apart g w off = takes_none place g.file (IsAtRootOfFragment F root g) w w (λ y h. true≢false (sym h.0 ∙ off)) refl refl

  pub fragment_done : (G : Facts) (g : FragmentFact) (ys : List Selection) (a b : Walk) → G ≡ F → ys ≡ g.fragment.selections → is_possible F root g.fragment.condition.text ≡ true
      → Takes place g.file (IsAtRootOf G root ys) a b → Takes place g.file (IsAtRootOfFragment F root g) a b
  fragment_done G g ys a b same listed on t =
      takes_by place g.file (IsAtRootOf F root g.fragment.selections) (IsAtRootOfFragment F root g) a b (λ y h. (on, h)) (λ y h. h.1)
      (subst (λ l. Takes place g.file (IsAtRootOf F root l) a b) listed (subst (λ H. Takes place g.file (IsAtRootOf H root ys) a b) same t))

  -- the fragment that was met
  met : (members : List FragmentFact) (o : Option ℕ) (i : ℕ) (g : FragmentFact) → o ≡ Some i → slice_get members i ≡ Some g → option_and_then (slice_get members) o ≡ Some g
  met members o i g e k = ap (option_and_then (slice_get members)) e ∙ k

  pub entered_none : (members : List FragmentFact) (o : Option ℕ) (a b : Walk) → None ≡ option_and_then (slice_get members) o
      → (i : ℕ) (g : FragmentFact) → o ≡ Some i → slice_get members i ≡ Some g → Takes place g.file (IsAtRootOfFragment F root g) a b
  entered_none members o a b empty i g e k = absurd (let h : None ≡ Some g = empty ∙ met members o i g e k in cc h)

  pub entered_some : (members : List FragmentFact) (o : Option ℕ) (m : FragmentFact) (a b : Walk) → Some m ≡ option_and_then (slice_get members) o
      → Takes place m.file (IsAtRootOfFragment F root m) a b
      → (i : ℕ) (g : FragmentFact) → o ≡ Some i → slice_get members i ≡ Some g → Takes place g.file (IsAtRootOfFragment F root g) a b
  entered_some members o m a b some t i g e k =
      let h : Some m ≡ Some g = some ∙ met members o i g e k in
      let same : m ≡ g = cc h in
      subst (λ z. Takes place z.file (IsAtRootOfFragment F root z) a b) same t
