-- The fragments that a set spreads, by their places among those that the definition reaches.
use Rattle.std.specs.Prelude.{◌≡◌, ◌↔◌, ◌<◌, ◌≤◌, ◌+◌, ◌⊎◌, ℕ, zero, suc, List, [], ◌∷◌, ◌++◌, map, flat_map, length, take, bytes_eq, cond, true, false, refl, Option, Some, None, Contains}
use Rattle.std.specs.List.{slice_get}
use Rattle.std.specs.Map.{update}
use Rattle.std.proofs.Common.{ap, sym, ◌∙◌, subst, inl, inr, get_or, arith, Bor}
use Rattle.std.proofs.lemmas.List.{get_or-map, length-map, take_all, take_more}
use Rattle.std.proofs.lemmas.List.Elements.{Contains-get_or, Contains-append_left, Contains-append_right, Contains-append_cases}
use Rattle.std.proofs.lemmas.Option.{get_or_from_slice_get, slice_get_read, slice_get_within}
use Rattle.std.proofs.lemmas.Slice.Eq.{bytes_eq-Decides}
use Rattle.gql_ast.specs.declared.definition.Definition.{Definition}
use Rattle.gql_ast.specs.declared.executable.Selection.{Selection}
use Rattle.gql_clashes.proofs.Members.{Contains-map, Contains-map_from, flat_map-map, take_has}
use Rattle.gql_clashes.specs.Clashes.{Nodes}
use Rattle.gql_clashes.specs.Numbered.{IsWhole, no_field, nodes_of}
use Rattle.gql_clashes.specs.Numbered as numbered
use Rattle.gql_clashes.specs.Parts.{SpreadsTo, itself, more}
use Rattle.gql_clashes.specs.Reach.{IsSpreadBy}
use Rattle.gql_clashes.specs.declared.sets.Body.{Body}
use Rattle.gql_clashes.specs.declared.sets.Sets.{Sets}
use Rattle.gql_facts.specs.ListMembers.{Contains-cases, Contains-flat_map, Contains-flat_map_from, Contains-here, Contains-nil, either, some_same}
use Rattle.gql_facts.specs.Members.{Lists}
use Rattle.gql_facts.specs.Nodes.{composite}
use Rattle.gql_facts.specs.Reads.{Reaches, by_definition, by_fragment}
use Rattle.gql_facts.specs.Worlds.{Facts, IsWorld}
use Rattle.gql_facts.specs.declared.fact.Fact.{Fact}
use Rattle.gql_facts.specs.declared.fact.Fact.TheVariants as fact
use Rattle.gql_facts.specs.declared.fact.FragmentFact.{FragmentFact}
use Rattle.gql_facts.specs.declared.key.Key.TheVariants as key
use Rattle.gql_merge.proofs.Drawing.{map_end}
use Rattle.gql_merge.proofs.NamesRead.{of_fragment_asked, of_tree_asked}
use Rattle.gql_merge.proofs.SpreadParts.{in_set}
use Rattle.gql_merge.specs.Between.{name_of}
use Rattle.gql_merge.specs.ByFragments as by
use Rattle.gql_merge.specs.ByFragments.{IsPairOf, Spreads}
use Rattle.gql_merge.specs.FieldNodes.{SetNode, names_spread}
use Rattle.gql_merge.specs.FieldSets.{list_of, part_within, set_of}
use Rattle.gql_merge.specs.MergedNodes.{fragment_part, fragment_set, sets_in, sets_of}
use Rattle.gql_merge.specs.SpreadNames.{AddsNames, if_any, names_of, spread_by}
use Rattle.gql_merge.specs.SpreadPlaces.{ArePlaces, AreSpreadFrom, IsListFrom, IsPlaceAt, IsSpreadFrom, member_at, no_places, places_by, places_spread}
use Rattle.gql_merge.specs.SpreadSets.{AreSpreadSets, HasBoth}
use Rattle.gql_merge.specs.declared.spread_names.SetNames.{SetNames}
use Rattle.gql_merge.specs.declared.spreading.SpreadSet.{SpreadSet}

-- ---- places

pub places_none : (members seen : List FragmentFact) (f : List ℕ → Option ℕ) → seen ≡ [] → ((q : List ℕ) → f q ≡ None) → ArePlaces members seen f
places_none members seen f empty none q = subst (IsPlaceAt members seen q) (sym (none q)) (λ g c e. Contains-nil g (subst (λ l. Contains l g) empty c))

same_place : (members seen : List FragmentFact) (i : ℕ) (g : FragmentFact) (q : List ℕ) (o : Option ℕ) → i < length seen → get_or seen i g ≡ g
    → bytes_eq (name_of g) q ≡ false → IsPlaceAt members (take i seen) q o → IsPlaceAt members (take (i + 1) seen) q o
same_place members seen i g q None within item other at = λ h c e. elim (take_has seen i g h within item c) [
  | inl a ↦ at h a e
  | inr s ↦ absurd (let t = (bytes_eq-Decides (name_of g) q).1 (ap name_of s ∙ e) in let f : true ≡ false = sym t ∙ other in cc f)
]
same_place members seen i g q (Some k) within item other at = at

pub places_more : (members : List FragmentFact) (i : ℕ) (g : FragmentFact) (bs : List ℕ) (f h : List ℕ → Option ℕ) → i < length members → g ≡ get_or members i g
    → bs ≡ name_of g → ((q : List ℕ) → h q ≡ update bytes_eq f bs (Some i) q)
    → ArePlaces members (take i members) f → ArePlaces members (take (i + 1) members) h
places_more members i g bs f h within item named is before q = elim (either (bytes_eq bs q)) [
  | inl t ↦ subst (IsPlaceAt members (take (i + 1) members) q) (sym (is q ∙ ap (λ b. cond b (Some i) (f q)) t))
      (g, slice_get_read members (length members) i g refl within item, sym named ∙ (bytes_eq-Decides bs q).0 t)
  | inr n ↦ subst (IsPlaceAt members (take (i + 1) members) q) (sym (is q ∙ ap (λ b. cond b (Some i) (f q)) n))
      (same_place members members i g q (f q) within (sym item) (ap (λ x. bytes_eq x q) (sym named) ∙ n) (before q))
]

pub places_all : (members : List FragmentFact) (i : ℕ) (f : List ℕ → Option ℕ) → length members ≤ i → ArePlaces members (take i members) f → ArePlaces members members f
places_all members i f le a = subst (λ l. ArePlaces members l f) (take_all i members le) a

listed_at : {A : Type 0} (o : Option A) (x : A) → Contains (list_of o) x → o ≡ Some x
listed_at None x c = absurd (Contains-nil x c)
listed_at (Some y) x c = elim (Contains-cases x y [] c) [ inl e ↦ ap Some (sym e) | inr n ↦ absurd (Contains-nil x n) ]

listed_from : {A : Type 0} (o : Option A) (x : A) → o ≡ Some x → Contains (list_of o) x
listed_from o x e = subst (λ p. Contains (list_of p) x) (sym e) (Contains-here x [])

-- the places of names
pub places_from : (place : List ℕ → Option ℕ) (g : FragmentFact) (ys : List Selection) (names : List (Bor (List ℕ))) (spreads : List ℕ) → ys ≡ g.fragment.selections
    → AddsNames (in_set ys) [] names → spreads ≡ flat_map (λ n. list_of (place n.now)) names
    → (facts : Facts) → spreads ≡ places_spread place facts g
places_from place g ys names spreads listed a e facts =
    let parent = composite facts (Some g.fragment.condition.text) in
    e ∙ sym (flat_map-map (λ n. list_of (place n)) (λ (n : Bor (List ℕ)). n.now) names)
    ∙ ap (places_by place) (a facts g.file parent)
    ∙ ap (λ l. places_by place (part_within facts g.file parent l).names) listed

module _ (members : List FragmentFact) (place : List ℕ → Option ℕ) (at : ArePlaces members members place) where
  pub place_within : (n : List ℕ) (i : ℕ) → place n ≡ Some i → i < length members
  place_within n i e = let p : IsPlaceAt members members n (Some i) = subst (IsPlaceAt members members n) e (at n) in
      slice_get_within members i p.0 p.1

  pub all_within : (names : List (List ℕ)) (i : ℕ) → Contains (places_by place names) i → i < length members
  all_within names i c = let r = Contains-flat_map_from (λ n. list_of (place n)) names i c in place_within r.0 i (listed_at (place r.0) i r.2)

-- ---- bodies

pub map_more : {A B C : Type 0} (f : A → C) (h : B → C) (xs : List A) (i : ℕ) (x : A) (ys : List B) (y : B) (zs : List B) → i < length xs → get_or xs i x ≡ x
    → map h ys ≡ map f (take i xs) → h y ≡ f x → zs ≡ ys ++ y ∷ [] → map h zs ≡ map f (take (i + 1) xs)
map_more f h xs i x ys y zs within item a e is =
    ap (map h) is ∙ map_end h ys y ∙ ap (λ l. l ++ h y ∷ []) a ∙ ap (λ z. map f (take i xs) ++ z ∷ []) e
    ∙ sym (map_end f (take i xs) x) ∙ ap (λ z. map f (take i xs ++ z ∷ [])) (sym item) ∙ ap (map f) (sym (take_more xs i x within))

abbrev fields_of : Body → List ℕ
fields_of b = b.fields.items

abbrev spreads_of : Body → List ℕ
spreads_of b = b.spreads.items

nothing_at : (members : List FragmentFact) (i f : ℕ) → Contains (get_or (map no_places members) i []) f → ⊥
nothing_at [] i f c = Contains-nil f c
nothing_at (g ∷ gs) zero f c = Contains-nil f c
nothing_at (g ∷ gs) (suc i) f c = nothing_at gs i f c

-- a walk goes one step on
one_on : {A B : Type 0} (v : Nodes A B) (s t u : B) → SpreadsTo v s t → Contains (v.spreads t) u → SpreadsTo v s u
one_on v s t u itself c = more c itself
one_on v s t u (more {t = r} a b) c = more a (one_on v r t u b c)

has_at : (members : List FragmentFact) (i : ℕ) (g : FragmentFact) → slice_get members i ≡ Some g → Contains members g
has_at members i g e = subst (Contains members) (get_or_from_slice_get members i g g e) (Contains-get_or members i g (slice_get_within members i g e))

module _ (members : List FragmentFact) (place : List ℕ → Option ℕ) (at : ArePlaces members members place) (z : Sets)
    (none : z.fields.items ≡ []) (fields : map fields_of z.bodies.items ≡ map no_places members)
    (spreads : (facts : Facts) → map spreads_of z.bodies.items ≡ map (places_spread place facts) members) where
  pub count : length z.bodies.items ≡ length members
  count = sym (length-map z.bodies.items fields_of) ∙ ap length fields ∙ length-map members no_places

  spread_within : (facts : Facts) (ys : List FragmentFact) (s t : ℕ) → Contains (get_or (map (places_spread place facts) ys) s []) t → t < length members
  spread_within facts [] s t c = absurd (Contains-nil t c)
  spread_within facts (g ∷ gs) zero t c = all_within members place at (names_spread (fragment_set facts g)) t c
  spread_within facts (g ∷ gs) (suc s) t c = spread_within facts gs s t c

  abbrev no_facts : Facts
  no_facts = λ k. fact.Absent

  pub whole : IsWhole z
  whole = record {
    fields = λ s f c. absurd (nothing_at members s f (subst (λ l. Contains (get_or l s []) f) fields c));
    spreads = λ s t c. rw count (spread_within no_facts members s t (subst (λ l. Contains (get_or l s []) t) (spreads no_facts) c));
    below = λ f s e. absurd (let h : None ≡ Some s = sym (ap (λ l. (get_or l f no_field).below) none) ∙ e in cc h);
  }

  module _ (F : Facts) (names : List (List ℕ)) (world : IsWorld F names) (d : Definition) (lists : Lists members (Reaches F d)) where
    spreads_at : (i : ℕ) (g : FragmentFact) → slice_get members i ≡ Some g → (nodes_of z).spreads i ≡ places_spread place F g
    spreads_at i g e = ap (λ l. get_or l i []) (spreads F)
        ∙ get_or-map (places_spread place F) members i g [] (slice_get_within members i g e)
        ∙ ap (places_spread place F) (get_or_from_slice_get members i g g e)

    own_name : (n : List ℕ) (g : FragmentFact) → F (key.FragmentOf n) ≡ fact.Fragment g → F (key.FragmentOf (name_of g)) ≡ fact.Fragment g
    own_name n g e = subst (λ m. F (key.FragmentOf m) ≡ fact.Fragment g) (sym (world.named n g e)) e

    reached_name : (g : FragmentFact) → Reaches F d g → F (key.FragmentOf (name_of g)) ≡ fact.Fragment g
    reached_name g (by_definition {n} c e) = own_name n g e
    reached_name g (by_fragment {n} {f} r c e) = own_name n g e

    member_name : (g : FragmentFact) → Contains members g → F (key.FragmentOf (name_of g)) ≡ fact.Fragment g
    member_name g c = reached_name g (lists.sound g c)

    one : (n : List ℕ) (g h : FragmentFact) → F (key.FragmentOf n) ≡ fact.Fragment g → Contains members h → name_of h ≡ n → h ≡ g
    one n g h e c s = let k : fact.Fragment h ≡ fact.Fragment g = sym (member_name h c) ∙ ap (λ m. F (key.FragmentOf m)) s ∙ e in cc k

    abbrev HasPlace : List ℕ → FragmentFact → Type 0
    HasPlace n g = (i : ℕ) × (place n ≡ Some i) × (slice_get members i ≡ Some g)

    place_by : (n : List ℕ) (g : FragmentFact) → F (key.FragmentOf n) ≡ fact.Fragment g → Contains members g → (o : Option ℕ) → place n ≡ o → IsPlaceAt members members n o
        → HasPlace n g
    place_by n g e c None is p = absurd (p g c (world.named n g e))
    place_by n g e c (Some i) is p = (i, is, subst (λ x. slice_get members i ≡ Some x) (one n g p.0 e (has_at members i p.0 p.1) p.2) p.1)

    place_is : (n : List ℕ) (g : FragmentFact) → F (key.FragmentOf n) ≡ fact.Fragment g → Contains members g → HasPlace n g
    place_is n g e c = place_by n g e c (place n) refl (at n)

    -- the fragment at the place of a name
    at_name : (n : List ℕ) (i : ℕ) → place n ≡ Some i → (g : FragmentFact) × (slice_get members i ≡ Some g) × (F (key.FragmentOf n) ≡ fact.Fragment g)
    at_name n i e =
        let p : IsPlaceAt members members n (Some i) = subst (IsPlaceAt members members n) e (at n) in
        (p.0, p.1, subst (λ m. F (key.FragmentOf m) ≡ fact.Fragment p.0) p.2 (member_name p.0 (has_at members i p.0 p.1)))

    has_place : (ns : List (List ℕ)) (n : List ℕ) (i : ℕ) → Contains ns n → place n ≡ Some i → Contains (places_by place ns) i
    has_place ns n i c e = Contains-flat_map (λ m. list_of (place m)) ns n i c (listed_from (place n) i e)

    from_place : (ns : List (List ℕ)) (i : ℕ) → Contains (places_by place ns) i → (n : List ℕ) × Contains ns n × (place n ≡ Some i)
    from_place ns i c = let r = Contains-flat_map_from (λ m. list_of (place m)) ns i c in (r.0, r.1, listed_at (place r.0) i r.2)

    own_set : (g : FragmentFact) → Contains (sets_of (fragment_part F g.file g.fragment)) (fragment_set F g)
    own_set g = let p = fragment_part F g.file g.fragment in Contains-append_right p.sets (set_of p ∷ []) (set_of p) (Contains-here (set_of p) [])

    -- what a member spreads is a member
    next : (f g : FragmentFact) (n : List ℕ) → Contains members f → Contains (names_spread (fragment_set F f)) n → F (key.FragmentOf n) ≡ fact.Fragment g → Contains members g
    next f g n c h e = lists.complete g (by_fragment (lists.sound f c) (of_fragment_asked F f.file f.fragment (fragment_set F f) (own_set f) n h) e)

    module _ (s : SetNode) (c : Contains (sets_in F d) s) where
      first_member : (n : List ℕ) (g : FragmentFact) → Contains (names_spread s) n → F (key.FragmentOf n) ≡ fact.Fragment g → Contains members g
      first_member n g h e = lists.complete g (by_definition (of_tree_asked F d.file d.tree s c n h) e)

      abbrev seeds : List ℕ
      seeds = places_by place (names_spread s)

      abbrev IsThere : FragmentFact → Type 0
      IsThere g = (i : ℕ) × IsSpreadBy z seeds i × (slice_get members i ≡ Some g)

      there : (g : FragmentFact) → Spreads F s g → IsThere g
      there g (by.by_set {n} h e) =
          let p = place_is n g e (first_member n g h e) in
          (p.0, (p.0, has_place (names_spread s) n p.0 h p.1, itself), p.2)
      there g (by.by_fragment {n} {f} r h e) =
          let q = there f r in
          let i = q.0 in
          let m : Contains members g = next f g n (has_at members i f q.2) h e in
          let p = place_is n g e m in
          let step : Contains ((nodes_of z).spreads i) p.0 = subst (λ l. Contains l p.0) (sym (spreads_at i f q.2)) (has_place (names_spread (fragment_set F f)) n p.0 h p.1) in
          (p.0, (q.1.0, q.1.1, one_on (nodes_of z) q.1.0 i p.0 q.1.2 step), p.2)

      onward : (a i : ℕ) (g h : FragmentFact) → slice_get members a ≡ Some g → Spreads F s g → SpreadsTo (nodes_of z) a i → slice_get members i ≡ Some h → Spreads F s h
      onward a i g h e sp itself k = subst (Spreads F s) (some_same g h (sym e ∙ k)) sp
      onward a i g h e sp (more {t = t} x r) k =
          let q = from_place (names_spread (fragment_set F g)) t (subst (λ l. Contains l t) (spreads_at a g e) x) in
          let y = at_name q.0 t q.2 in
          onward t i y.0 h y.1 (by.by_fragment sp q.1 y.2) r k

      back : (g : FragmentFact) → IsThere g → Spreads F s g
      back g w =
          let q = from_place (names_spread s) w.1.0 w.1.1 in
          let y = at_name q.0 w.1.0 q.2 in
          onward w.1.0 w.0 y.0 g y.1 (by.by_set q.1 y.2) w.1.2 w.2

      some_name : (g : FragmentFact) → Spreads F s g → (n : List ℕ) × Contains (names_spread s) n
      some_name g (by.by_set {n} h e) = (n, h)
      some_name g (by.by_fragment {n} {f} r h e) = some_name f r

      spread_name : (g : FragmentFact) → Spreads F s g → F (key.FragmentOf (name_of g)) ≡ fact.Fragment g
      spread_name g (by.by_set {n} h e) = own_name n g e
      spread_name g (by.by_fragment {n} {f} r h e) = own_name n g e

    has_any_of : (ns : List (List ℕ)) (n : List ℕ) → Contains ns n → Contains (if_any ns) ns
    has_any_of [] n c = absurd (Contains-nil n c)
    has_any_of (m ∷ ms) n c = Contains-here (m ∷ ms) []

    any_is : (ns ms : List (List ℕ)) → Contains (if_any ns) ms → ms ≡ ns
    any_is [] ms c = absurd (Contains-nil ms c)
    any_is (n ∷ ns) ms c = elim (Contains-cases ms (n ∷ ns) [] c) [ inl e ↦ e | inr t ↦ absurd (Contains-nil ms t) ]

    module _ (lists_of : List (List (List ℕ))) (are : lists_of ≡ flat_map spread_by (sets_in F d)) (sets : List SpreadSet)
        (found : AreSpreadFrom members place z lists_of sets) where
      -- the set of a list
      set_for : (x : SpreadSet) → Contains sets x → (s : SetNode) × Contains (sets_in F d) s × IsListFrom members place z (names_spread s) x
      set_for x c =
          let f = found.from x c in
          let r = Contains-flat_map_from spread_by (sets_in F d) f.0 (subst (λ l. Contains l f.0) are f.1) in
          (r.0, r.1, subst (λ ns. IsListFrom members place z ns x) (any_is (names_spread r.0) f.0 r.2) f.2)

      spread_in : (x : SpreadSet) (s : SetNode) → Contains (sets_in F d) s → IsListFrom members place z (names_spread s) x → (g : FragmentFact) → Contains x.fragments.items g → Spreads F s g
      spread_in x s c l g h = let w = l.sound g h in back s c g (w.0, w.1, listed_at (slice_get members w.0) g w.2)

      in_list : (x : SpreadSet) (s : SetNode) → Contains (sets_in F d) s → IsListFrom members place z (names_spread s) x → (g : FragmentFact) → Spreads F s g → Contains x.fragments.items g
      in_list x s c l g sp = let w = there s c g sp in l.complete g (w.0, w.1, listed_from (slice_get members w.0) g w.2)

      both_to : (g h : FragmentFact) → IsPairOf F d g h → HasBoth sets g h
      both_to g h p =
          let s = p.0 in
          let n = some_name s p.1 g p.2 in
          let here : Contains lists_of (names_spread s) = subst (λ l. Contains l (names_spread s)) (sym are)
          (Contains-flat_map spread_by (sets_in F d) s (names_spread s) p.1 (has_any_of (names_spread s) n.0 n.1)) in
          let x = found.has (names_spread s) here in
          (x.0, x.1, in_list x.0 s p.1 x.2 g p.2, in_list x.0 s p.1 x.2 h p.3)

      both_from : (g h : FragmentFact) → HasBoth sets g h → IsPairOf F d g h
      both_from g h p =
          let s = set_for p.0 p.1 in
          (s.0, s.1, spread_in p.0 s.0 s.1 s.2 g p.2, spread_in p.0 s.0 s.1 s.2 h p.3)

      pub are_spread_sets : AreSpreadSets F d sets
      are_spread_sets = record {
        pairs = λ g h. (both_to g h, both_from g h);
        named = λ x g c h. let s = set_for x c in spread_name s.0 s.1 g (spread_in x s.0 s.1 s.2 g h);
      }

-- ---- a list for each

module _ (members : List FragmentFact) (place : List ℕ → Option ℕ) (z : Sets) where
  pub each_none : (names : List (List (List ℕ))) (sets : List SpreadSet) → names ≡ [] → sets ≡ [] → AreSpreadFrom members place z names sets
  each_none names sets no_names no_sets = record {
    has = λ ns c. absurd (Contains-nil ns (subst (λ l. Contains l ns) no_names c));
    from = λ s c. absurd (Contains-nil s (subst (λ l. Contains l s) no_sets c));
  }

  pub each_more : (xs : List SetNames) (i : ℕ) (x : SetNames) (old new : List SpreadSet) (s : SpreadSet) → i < length xs → get_or xs i x ≡ x
      → IsListFrom members place z (names_of x) s → new ≡ old ++ s ∷ []
      → AreSpreadFrom members place z (map names_of (take i xs)) old → AreSpreadFrom members place z (map names_of (take (i + 1) xs)) new
  each_more xs i x old new s within item l is before =
      let taken : map names_of (take (i + 1) xs) ≡ map names_of (take i xs) ++ names_of x ∷ [] =
      ap (map names_of) (take_more xs i x within ∙ ap (λ y. take i xs ++ y ∷ []) item) ∙ map_end names_of (take i xs) x in
      subst (λ ls. AreSpreadFrom members place z ls new) (sym taken) (subst (AreSpreadFrom members place z (map names_of (take i xs) ++ names_of x ∷ [])) (sym is) (record {
        has = λ ns c. elim (Contains-append_cases (map names_of (take i xs)) (names_of x ∷ []) ns c) [
          | inl a ↦ let h = before.has ns a in (h.0, Contains-append_left old (s ∷ []) h.0 h.1, h.2)
          | inr b ↦ elim (Contains-cases ns (names_of x) [] b) [
            | inl e ↦ (s, Contains-append_right old (s ∷ []) s (Contains-here s []), subst (λ m. IsListFrom members place z m s) (sym e) l)
            | inr n ↦ absurd (Contains-nil ns n)
          ]
        ];
        from = λ t c. elim (Contains-append_cases old (s ∷ []) t c) [
          | inl a ↦ let h = before.from t a in (h.0, Contains-append_left (map names_of (take i xs)) (names_of x ∷ []) h.0 h.1, h.2)
          | inr b ↦ elim (Contains-cases t s [] b) [
            | inl e ↦ (names_of x, Contains-append_right (map names_of (take i xs)) (names_of x ∷ []) (names_of x) (Contains-here (names_of x) []), subst (IsListFrom members place z (names_of x)) (sym e) l)
            | inr n ↦ absurd (Contains-nil t n)
          ]
        ];
      }))

  pub each_all : (xs : List SetNames) (i : ℕ) (sets : List SpreadSet) → length xs ≤ i → AreSpreadFrom members place z (map names_of (take i xs)) sets
      → AreSpreadFrom members place z (map names_of xs) sets
  each_all xs i sets le a = subst (λ l. AreSpreadFrom members place z (map names_of l) sets) (take_all i xs le) a

  -- the fragments at the places that were found
  pub one_list : (ns : List (List ℕ)) (set : SetNames) (first found : List ℕ) (fragments : List FragmentFact) (s : SpreadSet) → ns ≡ names_of set
      → first ≡ places_by place ns → numbered.Lists found (IsSpreadBy z first) → fragments ≡ flat_map (member_at members) found → s.fragments.items ≡ fragments
      → IsListFrom members place z (names_of set) s
  one_list ns set first found fragments s same seeds l is here =
      subst (λ m. IsListFrom members place z m s) same (record {
        sound = λ g c.
            let r = Contains-flat_map_from (member_at members) found g (subst (λ m. Contains m g) (here ∙ is) c) in
            (r.0, subst (λ m. IsSpreadBy z m r.0) seeds (l.sound r.0 r.1), r.2);
        complete = λ g w. subst (λ m. Contains m g) (sym (here ∙ is))
            (Contains-flat_map (member_at members) found w.0 g (l.complete w.0 (subst (λ m. IsSpreadBy z m w.0) (sym seeds) w.1)) w.2);
      })

-- ---- by the steps of the code

pub map_all : {A B C : Type 0} (f : A → C) (h : B → C) (xs : List A) (i : ℕ) (ys : List B) → length xs ≤ i → map h ys ≡ map f (take i xs) → map h ys ≡ map f xs
map_all f h xs i ys le a = a ∙ ap (map f) (take_all i xs le)

pub seeds_are : (place : List ℕ → Option ℕ) (set : SetNames) (ns : List (Bor (List ℕ))) (first slice : List ℕ) → ns ≡ set.names.items
    → first ≡ flat_map (λ n. list_of (place n.now)) ns → slice ≡ first → slice ≡ places_by place (names_of set)
seeds_are place set ns first slice same e is =
    is ∙ e ∙ ap (flat_map (λ (n : Bor (List ℕ)). list_of (place n.now))) same
    ∙ sym (flat_map-map (λ n. list_of (place n)) (λ (n : Bor (List ℕ)). n.now) set.names.items)

pub seeds_within : (members : List FragmentFact) (place : List ℕ → Option ℕ) (at : ArePlaces members members place) (z : Sets) (set : SetNames) (slice : List ℕ)
    → length z.bodies.items ≡ length members → slice ≡ places_by place (names_of set) → (s : ℕ) → Contains slice s → s < length z.bodies.items
seeds_within members place at z set slice count is s c = rw count (all_within members place at (names_of set) s (subst (λ l. Contains l s) is c))
