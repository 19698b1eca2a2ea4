-- What clashes between two of some fragments, by the numbers of their own sets.
use Rattle.std.specs.Prelude.{◌≡◌, ◌<◌, ◌≤◌, ◌+◌, ◌⊎◌, ℕ, List, [], ◌∷◌, ◌++◌, flat_map, map, length, refl, Option, Some, None, Contains}
use Rattle.std.proofs.Common.{ap, sym, ◌∙◌, subst, inl, inr, get_or, take}
use Rattle.std.proofs.lemmas.Option.{get_or_from_slice_get, slice_get_within}
use Rattle.std.proofs.lemmas.List.{take_all}
use Rattle.std.proofs.lemmas.List.Elements.{Contains-append_left, Contains-append_right, Contains-append_cases}
use Rattle.gql_clashes.specs.Adding.{Adds}
use Rattle.gql_clashes.specs.Numbered.{IsWhole, nodes_of}
use Rattle.gql_clashes.specs.Numbering.{IsNumbered, IsUsed}
use Rattle.gql_clashes.specs.declared.sets.Sets.{Sets}
use Rattle.gql_clashes.proofs.Members.{Contains-map, Contains-map_from, take_has, take_kept}
use Rattle.gql_facts.specs.ListMembers.{Contains-flat_map_from, Contains-nil, some_same}
use Rattle.gql_facts.specs.Members.{Lists}
use Rattle.gql_facts.specs.Worlds.{Facts, IsWorld}
use Rattle.gql_facts.specs.declared.fact.Fact.{Fact}
use Rattle.gql_facts.specs.declared.fact.Fact.TheVariants as fact
use Rattle.gql_facts.specs.declared.fact.FragmentFact.{FragmentFact}
use Rattle.gql_facts.specs.declared.key.Key.TheVariants as key
use Rattle.gql_merge.proofs.BadFields as fields
use Rattle.gql_merge.proofs.FlatNodes.{all_nodes, empty_set, field_at, node_at, set_at}
use Rattle.gql_merge.proofs.Matching as matching
use Rattle.gql_merge.proofs.NamesRead.{of_fragment_asked}
use Rattle.gql_merge.proofs.Together.{IsFieldAt}
use Rattle.gql_merge.specs.BadPairs.{AreClosed, IsBadAt, IsClashAt, IsClashInRows, IsClashOfTwo}
use Rattle.gql_merge.specs.Between.{name_of}
use Rattle.gql_merge.specs.FieldNodes.{SetNode, names_spread}
use Rattle.gql_merge.specs.FieldSets.{list_of}
use Rattle.gql_merge.specs.Flat.{Draws}
use Rattle.gql_merge.specs.Flattened.{AddsMembers, IsIndex, IsIndexAt, fragment_sets}
use Rattle.gql_merge.specs.MergedNodes.{fragment_set, nodes, sets_by, sets_named}
use Rattle.gql_merge.specs.Numbers.{Numbers}
use Rattle.gql_merge.specs.declared.bad_pair.BadPair.{BadPair}
use Rattle.gql_merge.specs.declared.flat.FlatField.{FlatField}
use Rattle.gql_merge.specs.declared.flat.FlatSet.{FlatSet}
use Rattle.gql_merge.specs.declared.two_fragments.FragmentClash.{FragmentClash}

-- ---- adding, some after some

pub adds_none : {A I : Type 0} (Q : I → A → Type 0) (xs old : List A) → xs ≡ old → Adds (λ x. (u : I) × Contains [] u × Q u x) old xs
adds_none Q xs old e = rw e (record { kept = λ x c. c; here = λ x h. absurd (Contains-nil h.0 h.1); from = λ x c. inl c })

pub adds_more : {A I : Type 0} (Q : I → A → Type 0) (us : List I) (i : ℕ) (u : I) (old mid new : List A) → i < length us → get_or us i u ≡ u → Adds (λ x. (u : I) × Contains (take i us) u × Q u x) old mid → Adds (Q u) mid new → Adds (λ x. (u : I) × Contains (take (i + 1) us) u × Q u x) old new
adds_more Q us i u old mid new lt e a b = record {
  kept = λ x c. b.kept x (a.kept x c);
  here = λ x h. elim (take_has us i u h.0 lt e h.1) [
    | inl o ↦ b.kept x (a.here x (h.0, o, h.2))
    | inr s ↦ b.here x (subst (λ z. Q z x) (sym s) h.2)
  ];
  from = λ x c. elim (b.from x c) [
    | inr q ↦ inr (u, take_kept us i u u lt e (inr refl), q)
    | inl m ↦ elim (a.from x m) [
      | inl o ↦ inl o
      | inr h ↦ inr (h.0, take_kept us i u h.0 lt e (inl h.1), h.2)
    ]
  ];
}

pub adds_all : {A I : Type 0} (Q : I → A → Type 0) (us : List I) (i : ℕ) (old new : List A) → length us ≤ i → Adds (λ x. (u : I) × Contains (take i us) u × Q u x) old new → Adds (λ x. (u : I) × Contains us u × Q u x) old new
adds_all {A} {I} Q us i old new le a = subst (λ xs. Adds (λ x. (u : I) × Contains xs u × Q u x) old new) (take_all i us le) a

pub adds_nothing : {A : Type 0} (P : A → Type 0) (old : List A) → ((x : A) → P x → ⊥) → Adds P old old
adds_nothing P old never = record { kept = λ x c. c; here = λ x h. absurd (never x h); from = λ x c. inl c }

pub adds_found : {A : Type 0} (P : A → Type 0) (old found new : List A) → ((x : A) → Contains found x → P x) → ((x : A) → P x → Contains found x) → new ≡ old ++ found → Adds P old new
adds_found P old found new sound complete e = rw e (record {
  kept = λ x c. Contains-append_left old found x c;
  here = λ x h. Contains-append_right old found x (complete x h);
  from = λ x c. elim (Contains-append_cases old found x c) [ inl o ↦ inl o | inr f ↦ inr (sound x f) ];
})

-- what is put under two names
abbrev pub clash_of : List ℕ → List ℕ → BadPair → FragmentClash
clash_of n m b = record { first = n; second = m; bad = b }

module _ (z : Sets) (all : List FlatField) (number : List ℕ → Option ℕ) (g h : FragmentFact) where
  abbrev named : BadPair → FragmentClash
  named b = clash_of (name_of g) (name_of h) b

  pub named_found : (i j : ℕ) (bad : List BadPair) (old new : List FragmentClash) → number (name_of g) ≡ Some i → number (name_of h) ≡ Some j → Lists bad (IsBadAt z all i j)
      → new ≡ old ++ map named bad → Adds (IsClashAt z all number g h) old new
  named_found i j bad old new ei ej l e = adds_found (IsClashAt z all number g h) old (map named bad) new
      (λ c k. let m = Contains-map_from named bad c k in
      subst (IsClashAt z all number g h) m.2 (i, j, ei, ej, refl, refl, l.sound m.0 m.1))
      (λ c k.
      let same : k.0 ≡ i = some_same k.0 i (sym k.2 ∙ ei) in
      let other : k.1 ≡ j = some_same k.1 j (sym k.3 ∙ ej) in
      let b : IsBadAt z all i j c.bad = subst (λ x. IsBadAt z all x j c.bad) same (subst (λ y. IsBadAt z all k.0 y c.bad) other k.6) in
      let is : named c.bad ≡ c = ap (λ n. clash_of n (name_of h) c.bad) (sym k.4) ∙ ap (λ n. clash_of c.first n c.bad) (sym k.5) in
      subst (Contains (map named bad)) is (Contains-map named bad c.bad (l.complete c.bad b)))
      e

  pub named_nothing : (old : List FragmentClash) → (number (name_of g) ≡ None) ⊎ (number (name_of h) ≡ None) → Adds (IsClashAt z all number g h) old old
  named_nothing old none = adds_nothing (IsClashAt z all number g h) old (λ c k. elim none [
    | inl e ↦ let f : Some k.0 ≡ None = sym k.2 ∙ e in cc f
    | inr e ↦ let f : Some k.1 ≡ None = sym k.3 ∙ e in cc f
  ])

-- ---- numbers for the sets of fragments

nothing : (F : Facts) (f : Fact) → ((g : FragmentFact) → f ≡ fact.Fragment g → ⊥) → sets_by F f ≡ []
nothing F fact.Absent never = refl
nothing F (fact.Kind k) never = refl
nothing F (fact.Field x) never = refl
nothing F (fact.Possible x) never = refl
nothing F (fact.Input x) never = refl
nothing F (fact.Enum x) never = refl
nothing F (fact.Directive x) never = refl
nothing F (fact.Root x) never = refl
nothing F (fact.Fragment g) never = absurd (never g refl)

module _ (F : Facts) (names : List (List ℕ)) (world : IsWorld F names) (members : List FragmentFact) (shut : AreClosed F members)
    (xs : List FlatSet) (number : List ℕ → Option ℕ) (added : AddsMembers F members [] xs number)
    (all : List FlatField) (z : Sets) (q : Numbers xs number all z) where
  abbrev ns : List SetNode
  ns = flat_map (fragment_sets F) members

  drawn : Draws xs ns
  drawn = (added [] tt).0

  index : IsIndex F ns members number
  index = (added [] tt).1

  reached : (s : SetNode) → Contains ns s → (n : List ℕ) → Contains (names_spread s) n → (g : FragmentFact) → F (key.FragmentOf n) ≡ fact.Fragment g → Contains members g
  reached s c n h g e =
      let r = Contains-flat_map_from (fragment_sets F) members s c in
      shut.closed r.0 g n r.1 (of_fragment_asked F r.0.file r.0.fragment s r.2 n h) e

  right_at : (s : SetNode) → Contains ns s → (n : List ℕ) → Contains (names_spread s) n → (o : Option ℕ) → IsIndexAt F ns members n o
      → map (set_at ns) (list_of o) ≡ sets_named F n
  right_at s c n h None at = sym (nothing F (F (key.FragmentOf n)) (λ g e. at g (reached s c n h g e) (world.named n g e)))
  right_at s c n h (Some i) at =
      let e : F (key.FragmentOf n) ≡ fact.Fragment at.0 = subst (λ m. F (key.FragmentOf m) ≡ fact.Fragment at.0) at.2 (shut.named at.0 at.1) in
      ap (λ t. t ∷ []) (get_or_from_slice_get ns i (fragment_set F at.0) empty_set at.3) ∙ ap (sets_by F) (sym e)

  right : matching.AreResolved F ns number
  right s c n h = right_at s c n h (number n) (index n)

  within : matching.AreInside ns number
  within n i e = let at : IsIndexAt F ns members n (Some i) = subst (λ o. IsIndexAt F ns members n o) e (index n) in
      slice_get_within ns i (fragment_set F at.0) at.3

  numbering : IsNumbered (nodes F) (nodes_of z) (node_at ns) (set_at ns)
  numbering = matching.is_numbered F xs ns number all z drawn q right within

  pub whole : IsWhole z
  whole = matching.is_whole F xs ns number all z drawn q right within

  at_field : (f : ℕ) → IsUsed (nodes_of z) f → IsFieldAt all (node_at ns) f
  at_field f u = field_at ns all (all_nodes ns) f (matching.drawn_all F xs ns number all z drawn q right within) (matching.used_below F xs ns number all z drawn q right within f u)

  pub inside : (n : List ℕ) (i : ℕ) → number n ≡ Some i → i < length z.bodies.items
  inside n i e = rw (matching.bodies_are F xs ns number all z drawn q right within) (within n i e)

  -- the one fragment of a name
  one : (g h : FragmentFact) → Contains members g → Contains members h → name_of h ≡ name_of g → h ≡ g
  one g h cg ch e =
      let k : fact.Fragment h ≡ fact.Fragment g = sym (shut.named h ch) ∙ ap (λ n. F (key.FragmentOf n)) e ∙ shut.named g cg in
      cc k

  -- its number is that of its own set
  set_is : (g : FragmentFact) → Contains members g → (i : ℕ) → number (name_of g) ≡ Some i → set_at ns i ≡ fragment_set F g
  set_is g c i e =
      let at : IsIndexAt F ns members (name_of g) (Some i) = subst (λ o. IsIndexAt F ns members (name_of g) o) e (index (name_of g)) in
      get_or_from_slice_get ns i (fragment_set F at.0) empty_set at.3 ∙ ap (fragment_set F) (one g at.0 c at.1 at.2)

  number_by : (g : FragmentFact) → Contains members g → (o : Option ℕ) → number (name_of g) ≡ o → IsIndexAt F ns members (name_of g) o → (i : ℕ) × (number (name_of g) ≡ Some i)
  number_by g c None e at = absurd (at g c refl)
  number_by g c (Some i) e at = (i, e)

  number_is : (g : FragmentFact) → Contains members g → (i : ℕ) × (number (name_of g) ≡ Some i)
  number_is g c = number_by g c (number (name_of g)) refl (index (name_of g))

  module _ (fragments : List FragmentFact) (among : (g : FragmentFact) → Contains fragments g → Contains members g) (found : List FragmentClash)
      (adds : Adds (IsClashInRows z all number fragments fragments) [] found) where
    sound_row : (c : FragmentClash) → IsClashInRows z all number fragments fragments c → IsClashOfTwo F fragments c
    sound_row c k =
        let g = k.0 in
        let h = k.2.0 in
        let at = k.2.2 in
        let i = set_is g (among g k.1) at.0 at.2 in
        let j = set_is h (among h k.2.1) at.1 at.3 in
        (g, h, k.1, k.2.1, at.4, at.5, fields.sound F z (node_at ns) (set_at ns) numbering all at_field g h at.0 at.1 i j c.bad at.6)

    complete_row : (c : FragmentClash) → IsClashOfTwo F fragments c → IsClashInRows z all number fragments fragments c
    complete_row c k =
        let g = k.0 in
        let h = k.1 in
        let i = number_is g (among g k.2) in
        let j = number_is h (among h k.3) in
        let bad = fields.complete F z (node_at ns) (set_at ns) numbering all at_field g h i.0 j.0 (set_is g (among g k.2) i.0 i.1) (set_is h (among h k.3) j.0 j.1) c.bad k.6 in
        (g, k.2, (h, k.3, (i.0, j.0, i.1, j.1, k.4, k.5, bad)))

    pub listed : Lists found (IsClashOfTwo F fragments)
    listed = record {
      sound = λ c k. elim (adds.from c k) [ inl n ↦ absurd (Contains-nil c n) | inr r ↦ sound_row c r ];
      complete = λ c k. adds.here c (complete_row c k);
    }

-- the same, by what the steps say
module _ (F : Facts) (names : List (List ℕ)) (world : IsWorld F names) (members : List FragmentFact) (shut : AreClosed F members)
    (old xs ys : List FlatSet) (number : List ℕ → Option ℕ) (none : old ≡ []) (same : ys ≡ xs) (added : AddsMembers F members old xs number)
    (all : List FlatField) (z : Sets) (q : Numbers ys number all z) where
  added' : AddsMembers F members [] xs number
  added' = subst (λ l. AddsMembers F members l xs number) none added

  q' : Numbers xs number all z
  q' = subst (λ l. Numbers l number all z) same q

  pub whole_of : IsWhole z
  whole_of = whole F names world members shut xs number added' all z q'

  pub inside_of : (n : List ℕ) (i : ℕ) → number n ≡ Some i → i < length z.bodies.items
  inside_of = inside F names world members shut xs number added' all z q'

  pub listed_of : (fragments : List FragmentFact) (among : (g : FragmentFact) → Contains fragments g → Contains members g) (all' : List FlatField) → all' ≡ all
      → (before found : List FragmentClash) → before ≡ [] → Adds (IsClashInRows z all' number fragments fragments) before found → Lists found (IsClashOfTwo F fragments)
  listed_of fragments among all' same_all before found empty adds = listed F names world members shut xs number added' all z q' fragments among found
      (subst (λ a. Adds (IsClashInRows z a number fragments fragments) [] found) same_all
      (subst (λ b. Adds (IsClashInRows z all' number fragments fragments) b found) empty adds))
