-- A walk finds just the root fields.
use Rattle.std.specs.Prelude.{◌≡◌, ◌<◌, ◌≤◌, ◌+◌, ◌-◌, ℕ, zero, suc, List, [], ◌∷◌, ◌++◌, map, take, length, Option, Some, Contains, refl, true, eqb}
use Rattle.std.specs.List.{slice_get, IsDistinct}
use Rattle.std.specs.Cmp.{unsigned_Decides}
use Rattle.std.proofs.Common.{ap, sym, ◌∙◌, subst, inl, inr, arith, length-append}
use Rattle.std.proofs.lemmas.List.{take_all}
use Rattle.std.proofs.lemmas.List.Elements.{Contains-append_left, Contains-append_cases}
use Rattle.std.proofs.lemmas.Map.Steps.{length-le_from_distinct_below}
use Rattle.std.proofs.lemmas.Option.{slice_get_within}
use Rattle.gql_ast.specs.declared.executable.Field.{Field}
use Rattle.gql_ast.specs.declared.executable.Selection.{Selection}
use Rattle.gql_ast.specs.declared.executable.Selection.TheVariants as s
use Rattle.gql_ast.specs.declared.executable.Spread.{Spread}
use Rattle.gql_facts.specs.ListMembers.{Contains-nil, Contains-here, Contains-there, some_same}
use Rattle.gql_facts.specs.Members.{Lists}
use Rattle.gql_facts.specs.Worlds.{Facts}
use Rattle.gql_facts.specs.declared.fact.Fact.TheVariants as fact
use Rattle.gql_facts.specs.declared.fact.FragmentFact.{FragmentFact}
use Rattle.gql_facts.specs.declared.key.Key.TheVariants as key
use Rattle.gql_single_root.specs.declared.walk.Walk.{Walk}
use Rattle.gql_single_root.specs.RootSelections.{IsAtRootOf, own, inside, is_kept}
use Rattle.gql_single_root.specs.V30SingleRootField.{AtRoot, here, inside as within_inline, spread as through, is_possible}
use Rattle.gql_single_root.specs.Walks.{Found, Takes, found_of, in_file, ArePlaces, HasAll, HasPlace, IsAtRootOfFragment, IsMet, IsRootField, IsWalked, Spreads, by_set, by_fragment}
use Rattle.gql_single_root.proofs.Lists.{any_is, one}
use Rattle.gql_single_root.proofs.Places.{place_is, at_name}
use Rattle.gql_single_root.proofs.Selecting.{kept_field, kept_spread}

-- ---- what is met is at the root, and the other way round

module _ (F : Facts) (root : List ℕ) where
  -- a field at the root of the set
  field_there : (file : List ℕ) (set : List Selection) (y : Selection) (f : Field) → y ≡ s.Field f → IsAtRootOf F root set y → AtRoot F root file set file f
  field_there file set y f is (own c k) =
      here (subst (λ z. Contains set z) is c) (sym (kept_field f) ∙ ap is_kept (sym is) ∙ k)
  field_there file set y f is (inside c k a h) = within_inline c k a (field_there file _ y f is h)

  -- a field of a fragment that is spread at the root of the set
  spread_there : (file at : List ℕ) (set : List Selection) (y : Selection) (x : Spread) (g : FragmentFact) (f : Field) → y ≡ s.Spread x
      → F (key.FragmentOf x.name.text) ≡ fact.Fragment g → is_possible F root g.fragment.condition.text ≡ true
      → AtRoot F root g.file g.fragment.selections at f → IsAtRootOf F root set y → AtRoot F root file set at f
  spread_there file at set y x g f is e p r (own c k) =
      through (subst (λ z. Contains set z) is c) (sym (kept_spread x) ∙ ap is_kept (sym is) ∙ k) e p r
  spread_there file at set y x g f is e p r (inside c k a h) = within_inline c k a (spread_there file at _ y x g f is e p r h)

  fragment_there : (file at : List ℕ) (set : List Selection) (g : FragmentFact) (f : Field) → Spreads F root set g
      → is_possible F root g.fragment.condition.text ≡ true → AtRoot F root g.file g.fragment.selections at f → AtRoot F root file set at f
  fragment_there file at set g f (by_set {x = x} h e) p r = spread_there file at set (s.Spread x) x g f refl e p r h
  fragment_there file at set g f (by_fragment {h = h} {x = x} sp i e) p r =
      fragment_there file at set h f sp i.0
      (spread_there h.file at h.fragment.selections (s.Spread x) x g f refl e p r i.1)

  pub met_there : (file : List ℕ) (set : List Selection) (y : Found) → IsMet F root file set y → IsRootField F root file set y
  met_there file set y (inl m) =
      subst (IsRootField F root file set) (sym m.2) (field_there file set (s.Field m.0) m.0 refl m.1)
  met_there file set y (inr m) =
      let g = m.0 in
      let f = m.1 in
      subst (IsRootField F root file set) (sym m.4)
      (fragment_there file g.file set g f m.2 m.3.0 (field_there g.file g.fragment.selections (s.Field f) f refl m.3.1))

  -- fragments of a part of the set
  wider_spreads : (part set : List Selection) (g : FragmentFact) → ((y : Selection) → IsAtRootOf F root part y → IsAtRootOf F root set y)
      → Spreads F root part g → Spreads F root set g
  wider_spreads part set g w (by_set {x = x} h e) = by_set (w (s.Spread x) h) e
  wider_spreads part set g w (by_fragment {h = h} sp i e) = by_fragment (wider_spreads part set h w sp) i e

  -- fragments of a fragment of the set
  deeper : (set : List Selection) (h g : FragmentFact) → Spreads F root set h → is_possible F root h.fragment.condition.text ≡ true
      → Spreads F root h.fragment.selections g → Spreads F root set g
  deeper set h g sp p (by_set k e) = by_fragment sp (p, k) e
  deeper set h g sp p (by_fragment {h = m} k i e) = by_fragment (deeper set h m sp p k) i e

  met_wider : (file : List ℕ) (part set : List Selection) (y : Found) → ((z : Selection) → IsAtRootOf F root part z → IsAtRootOf F root set z)
      → IsMet F root file part y → IsMet F root file set y
  met_wider file part set y w (inl m) = inl (m.0, w (s.Field m.0) m.1, m.2)
  met_wider file part set y w (inr m) = inr (m.0, m.1, wider_spreads part set m.0 w m.2, m.3, m.4)

  met_deeper : (file : List ℕ) (set : List Selection) (g : FragmentFact) (y : Found) → Spreads F root set g → is_possible F root g.fragment.condition.text ≡ true
      → IsMet F root g.file g.fragment.selections y → IsMet F root file set y
  met_deeper file set g y sp p (inl m) = inr (g, m.0, sp, (p, m.1), m.2)
  met_deeper file set g y sp p (inr m) = inr (m.0, m.1, deeper set g m.0 sp p m.2, m.3, m.4)

  pub there_met : (file at : List ℕ) (set : List Selection) (f : Field) → AtRoot F root file set at f → IsMet F root file set (in_file at f)
  there_met file at set f (here c k) = inl (f, own c (kept_field f ∙ k), refl)
  there_met file at set f (within_inline {i = i} c k a r) =
      met_wider file i.selections set (in_file at f) (λ z h. inside c k a h) (there_met file at i.selections f r)
  there_met file at set f (through {x = x} {g = g} c k e p r) =
      met_deeper file set g (in_file at f) (by_set (own c (kept_spread x ∙ k)) e) p (there_met g.file at g.fragment.selections f r)

-- ---- places

at_there : (xs : List ℕ) (i k : ℕ) → slice_get xs i ≡ Some k → Contains xs k
at_there [] i k e = absurd (cc e)
at_there (x ∷ xs) zero k e = subst (λ z. Contains (x ∷ xs) z) (some_same x k e) (Contains-here x xs)
at_there (x ∷ xs) (suc i) k e = Contains-there k x xs (at_there xs i k e)

take_next : (xs more : List ℕ) (i k : ℕ) → slice_get xs i ≡ Some k → take (suc i) (xs ++ more) ≡ take i xs ++ k ∷ []
take_next [] more i k e = absurd (cc e)
take_next (x ∷ xs) more zero k e = ap (λ z. z ∷ []) (some_same x k e)
take_next (x ∷ xs) more (suc i) k e = ap (λ l. x ∷ l) (take_next xs more i k e)

-- before the end there is a place
pub place_at : (xs : List ℕ) (i : ℕ) → i < length xs → (k : ℕ) × (slice_get xs i ≡ Some k)
place_at [] i h = absurd (omega (arith, h))
place_at (x ∷ xs) zero h = (x, refl)
place_at (x ∷ xs) (suc i) h = place_at xs i (omega (arith, h))

member_at : (members : List FragmentFact) (i : ℕ) (g h : FragmentFact) → slice_get members i ≡ Some g → slice_get members i ≡ Some h → g ≡ h
member_at members i g h e k = some_same g h (sym e ∙ k)

module _ (F : Facts) (root file : List ℕ) (set : List Selection) (members : List FragmentFact) (all : HasAll F root set members)
    (place : List ℕ → Option ℕ) (at : ArePlaces members members place) where
  -- the place of a fragment that is spread
  spread_place : (x : Spread) (g : FragmentFact) → Spreads F root set g → F (key.FragmentOf x.name.text) ≡ fact.Fragment g
      → (i : ℕ) × (place x.name.text ≡ Some i) × (slice_get members i ≡ Some g)
  spread_place x g sp e = place_is members place at F all.own all.named x.name.text g e (all.spread g sp)

  pub walked_first : (old new : Walk) → old.entered.keys ≡ [] → old.fields.items ≡ [] → Takes place file (IsAtRootOf F root set) old new
      → IsWalked F root file set members 0 new
  walked_first old new none nothing t = record {
    within = omega arith;
    spread = λ i h.
        let c : Contains t.more i = subst (λ l. Contains l i) (t.grown ∙ ap (λ l. l ++ t.more) none) h in
        let n = t.named i c in
        let m = at_name members place at F all.own all.named n.0.name.text i n.2 in
        (m.0, m.1, by_set n.1 m.2);
    own_spreads = λ x g h e.
        let p = spread_place x g (by_set h e) e in
        (p.0, t.enters x p.0 h p.1, p.2);
    spreads = λ i h g x c. absurd (Contains-nil i c);
    met = λ y h. elim (t.from y h) [
      | inl o ↦ absurd (Contains-nil y (subst (λ l. Contains (map found_of l) y) nothing o))
      | inr p ↦ inl p
    ];
    own_fields = λ f h. t.has f h;
    fields = λ i h f c. absurd (Contains-nil i c);
  }

  pub walked_more : (n k : ℕ) (g : FragmentFact) (old new : Walk) → IsWalked F root file set members n old
      → slice_get old.entered.keys n ≡ Some k → slice_get members k ≡ Some g → Spreads F root set g
      → Takes place g.file (IsAtRootOfFragment F root g) old new
      → IsWalked F root file set members (suc n) new
  walked_more n k g old new w here' there' sp t =
      let firsts : take (suc n) new.entered.keys ≡ take n old.entered.keys ++ k ∷ [] = ap (take (suc n)) t.grown ∙ take_next old.entered.keys t.more n k here' in
      let keep : (i : ℕ) → Contains old.entered.keys i → Contains new.entered.keys i = λ i h. subst (λ l. Contains l i) (sym t.grown) (Contains-append_left old.entered.keys t.more i h) in
      let b = slice_get_within old.entered.keys n k here' in
      record {
        within = subst (λ l. suc n ≤ length l) (sym t.grown) (omega (arith, b, length-append old.entered.keys t.more));
        spread = λ i h. elim (Contains-append_cases old.entered.keys t.more i (subst (λ l. Contains l i) t.grown h)) [
          | inl a ↦ w.spread i a
          | inr c ↦ let m = t.named i c in
              let y = at_name members place at F all.own all.named m.0.name.text i m.2 in
              (y.0, y.1, by_fragment sp m.1 y.2)
        ];
        own_spreads = λ x h i e. let p = w.own_spreads x h i e in (p.0, keep p.0 p.1, p.2);
        spreads = λ i h j x c m q e. elim (Contains-append_cases (take n old.entered.keys) (k ∷ []) i (subst (λ l. Contains l i) firsts c)) [
          | inl a ↦ let p = w.spreads i h j x a m q e in (p.0, keep p.0 p.1, p.2)
          | inr b ↦
              let same : h ≡ g = member_at members k h g (subst (λ z. slice_get members z ≡ Some h) (one k i b) m) there' in
              let q' : IsAtRootOfFragment F root g (s.Spread x) = subst (λ z. IsAtRootOfFragment F root z (s.Spread x)) same q in
              let p = spread_place x j (by_fragment sp q' e) e in
              (p.0, t.enters x p.0 q' p.1, p.2)
        ];
        met = λ y h. elim (t.from y h) [
          | inl o ↦ w.met y o
          | inr p ↦ inr (g, p.0, sp, p.1, p.2)
        ];
        own_fields = λ f h. t.kept (in_file file f) (w.own_fields f h);
        fields = λ i h f c m q. elim (Contains-append_cases (take n old.entered.keys) (k ∷ []) i (subst (λ l. Contains l i) firsts c)) [
          | inl a ↦ t.kept (in_file h.file f) (w.fields i h f a m q)
          | inr b ↦
              let same : h ≡ g = member_at members k h g (subst (λ z. slice_get members z ≡ Some h) (one k i b) m) there' in
              subst (λ z. Contains (map found_of new.fields.items) (in_file z.file f)) (sym same)
              (t.has f (subst (λ z. IsAtRootOfFragment F root z (s.Field f)) same q))
        ];
      }

  -- as the clauses of the calls give it
  pub walked_next : (G : Facts) (n : ℕ) (old new : Walk) → G ≡ F → n < length old.entered.keys → IsWalked F root file set members n old
      → ((i : ℕ) (g : FragmentFact) → slice_get old.entered.keys n ≡ Some i → slice_get members i ≡ Some g → Takes place g.file (IsAtRootOfFragment G root g) old new)
      → IsWalked F root file set members (n + 1) new
  walked_next G n old new same lt w takes =
      let k = place_at old.entered.keys n lt in
      let m = w.spread k.0 (at_there old.entered.keys n k.0 k.1) in
      let t = subst (λ H. Takes place m.0.file (IsAtRootOfFragment H root m.0) old new) same (takes k.0 m.0 k.1 m.1) in
      subst (λ z. IsWalked F root file set members z new) (omega arith) (walked_more n k.0 m.0 old new w k.1 m.1 m.2 t)

  -- ---- the end of a walk

  module _ (n : ℕ) (walk : Walk) (w : IsWalked F root file set members n walk) (past : n < length walk.entered.keys → ⊥) where
    all_taken : take n walk.entered.keys ≡ walk.entered.keys
    all_taken = let le : length walk.entered.keys ≤ n = omega (arith, past) in take_all n walk.entered.keys le

    taken_place : (i : ℕ) → Contains walk.entered.keys i → Contains (take n walk.entered.keys) i
    taken_place i h = subst (λ l. Contains l i) (sym all_taken) h

    spread_met : (g : FragmentFact) → Spreads F root set g → HasPlace members walk.entered.keys g
    spread_met g (by_set {x = x} h e) = w.own_spreads x g h e
    spread_met g (by_fragment {h = h} {x = x} sp i e) =
        let p = spread_met h sp in
        w.spreads p.0 h g x (taken_place p.0 p.1) p.2 i e

    found : (y : Found) → IsMet F root file set y → Contains (map found_of walk.fields.items) y
    found y (inl m) = subst (Contains (map found_of walk.fields.items)) (sym m.2) (w.own_fields m.0 m.1)
    found y (inr m) =
        let p = spread_met m.0 m.2 in
        subst (Contains (map found_of walk.fields.items)) (sym m.4) (w.fields p.0 m.0 m.1 (taken_place p.0 p.1) p.2 m.3)

    pub walked_fields : Lists (map found_of walk.fields.items) (IsRootField F root file set)
    walked_fields = record {
      sound = λ y h. met_there F root file set y (w.met y h);
      complete = λ y r. found y (there_met F root file y.at set y.field r);
    }

  -- ---- a walk ends

  pub fewer_left : (n : ℕ) (walk : Walk) → IsWalked F root file set members n walk → IsDistinct eqb walk.entered.keys → n < length walk.entered.keys
      → length members - (n + 1) < length members - n
  fewer_left n walk w distinct lt =
      let b = length-le_from_distinct_below walk.entered.keys (length members) distinct
      (λ q h. let m = w.spread q (any_is eqb (λ x y. unsigned_Decides x y) q walk.entered.keys h) in slice_get_within members q m.0 m.1) in
      omega (arith, b, lt)
