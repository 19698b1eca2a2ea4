-- Sets that are clean, and fragments that are known to be.
use Rattle.std.specs.Prelude.{◌≡◌, ◌⊎◌, ◌+◌, ℕ, zero, suc, List, [], ◌∷◌, ◌++◌, map, flat_map, length, Bool, true, Option, Some, refl, Contains}
use Rattle.std.proofs.Common.{ap, arith, sym, ◌∙◌, subst, inl, inr, get_or, take}
use Rattle.std.proofs.Math.Seq.{get_or-append_seam}
use Rattle.std.proofs.lemmas.List.{append-nil, length-append, take_all}
use Rattle.std.proofs.lemmas.Option.{get_or_from_slice_get}
use Rattle.std.proofs.lemmas.List.Elements.{Contains-append_left, Contains-append_right, Contains-append_cases}
use Rattle.gql_ast.specs.declared.definition.Definition.{Definition}
use Rattle.gql_ast.specs.declared.definition.Tree.TheVariants as tree
use Rattle.gql_ast.specs.declared.executable.Fragment.{Fragment}
use Rattle.gql_ast.specs.declared.fault.Fault.{Fault}
use Rattle.gql_clashes.proofs.Carrying as carrying
use Rattle.gql_clashes.proofs.Joining.{reached_by, reached_of}
use Rattle.gql_clashes.proofs.Searching.{clash_of}
use Rattle.gql_clashes.proofs.Splitting.{in_one}
use Rattle.gql_clashes.specs.Clashes.{FieldsOf, IsClash, Nodes, SeedsOf, here, spread}
use Rattle.gql_clashes.specs.Compared.{pair_of}
use Rattle.gql_clashes.specs.Numbered as numbered
use Rattle.gql_clashes.specs.Numbered.{IsClashPair, nodes_of}
use Rattle.gql_clashes.specs.Numbering.{IsNumbered}
use Rattle.gql_clashes.specs.Parts.{SpreadsTo, itself, more}
use Rattle.gql_clashes.specs.Reach.{IsCleanBody}
use Rattle.gql_clashes.specs.declared.sets.Pair.{Pair}
use Rattle.gql_clashes.specs.declared.sets.Sets.{Sets}
use Rattle.gql_facts.specs.ListMembers.{Contains-cases, Contains-flat_map_from, Contains-here, Contains-nil, Contains-there}
use Rattle.gql_facts.specs.Members.{Lists}
use Rattle.gql_facts.specs.Worlds.{Facts}
use Rattle.gql_facts.specs.declared.fact.Fact.{Fact}
use Rattle.gql_facts.specs.declared.fact.Fact.TheVariants as fact
use Rattle.gql_facts.specs.declared.fact.FragmentFact.{FragmentFact}
use Rattle.gql_facts.specs.declared.key.Key.TheVariants as key
use Rattle.gql_merge.proofs.Drawing.{same_length}
use Rattle.gql_merge.proofs.Together.{two_reached}
use Rattle.gql_merge.specs.Clean.{AreClean, IsClean}
use Rattle.gql_merge.specs.FieldNodes.{FieldNode, SetNode, direct, names_spread, no_fields as no_field_list, selection_set}
use Rattle.gql_merge.specs.FieldSets.{list_of}
use Rattle.gql_merge.specs.Flat.{AreDrawn, AreSetsDrawn, Draws, IsSetDrawn}
use Rattle.gql_merge.specs.Flattened.{IsIndex, IsIndexAt}
use Rattle.gql_merge.specs.Light.{IsFirstOf, IsLastClean, IsLight, IsOneOf, IsSettled, MayAdd, spread_names}
use Rattle.gql_merge.specs.MergeFaults.{IsMergeFault, by_v05, by_v06}
use Rattle.gql_merge.specs.MergedNodes.{fragment_part, fragment_set, nodes, sets_by, sets_in, sets_named, sets_of, tree_part}
use Rattle.gql_merge.specs.V05DifferentCalls as v05
use Rattle.gql_merge.specs.V06DifferentShapes as v06
use Rattle.gql_merge.specs.declared.flat.FlatField.{FlatField}
use Rattle.gql_merge.specs.declared.flat.FlatSet.{FlatSet}

module _ (F : Facts) where
  abbrev v : Nodes FieldNode SetNode
  v = nodes F

  -- fewer sets, and sets one by one
  pub clean_part : (few many : List SetNode) → ((s : SetNode) → Contains few s → Contains many s) → IsClean F many → IsClean F few
  clean_part few many h c f g m k = c f g m (reached_by v (SeedsOf v few) (SeedsOf v many) (λ x y b. (b.0, h b.0 b.1, b.2, b.3)) k.0, k.1)

  pub clean_each : (sets : List SetNode) → ((s : SetNode) → Contains sets s → IsClean F (s ∷ [])) → IsClean F sets
  clean_each sets h f g m k = let r = in_one v sets k in h r.0 r.1 f g m r.2

  -- a definition with clean sets has no faults
  no_fault : (d : Definition) → IsClean F (sets_in F d) → (x : Fault) → IsMergeFault F d x → Contains [] x
  no_fault d c x (by_v05 (v05.differ {f = f} {g = g} {m = m} k bad)) = absurd (c f g m k.0)
  no_fault d c x (by_v06 (v06.differ {f = f} {g = g} {m = m} k bad)) = absurd (c f g m k.0)

  pub no_faults : (d : Definition) → IsClean F (sets_in F d) → Lists [] (IsMergeFault F d)
  no_faults d c = record { sound = λ x h. absurd (Contains-nil x h); complete = no_fault d c }

  -- ---- a set that spreads one fragment

  pub both_by : (x : Fact) (s t : SetNode) → Contains (sets_by F x) s → Contains (sets_by F x) t
      → (g : FragmentFact) × (x ≡ fact.Fragment g) × (s ≡ fragment_set F g) × (t ≡ fragment_set F g)
  both_by fact.Absent s t a b = absurd (Contains-nil s a)
  both_by (fact.Kind k) s t a b = absurd (Contains-nil s a)
  both_by (fact.Field y) s t a b = absurd (Contains-nil s a)
  both_by (fact.Possible y) s t a b = absurd (Contains-nil s a)
  both_by (fact.Input y) s t a b = absurd (Contains-nil s a)
  both_by (fact.Enum y) s t a b = absurd (Contains-nil s a)
  both_by (fact.Directive y) s t a b = absurd (Contains-nil s a)
  both_by (fact.Root y) s t a b = absurd (Contains-nil s a)
  both_by (fact.Fragment g) s t a b = (g, refl, one s a, one t b) where
    one : (u : SetNode) → Contains (fragment_set F g ∷ []) u → u ≡ fragment_set F g
    one u c = elim (Contains-cases u (fragment_set F g) [] c) [ inl e ↦ e | inr n ↦ absurd (Contains-nil u n) ]

  spread_set : (names : List (List ℕ)) (s : SetNode) {f : FieldNode} → direct s ≡ [] → names_spread s ≡ names → FieldsOf v s f
      → (t : SetNode) × Contains (flat_map (sets_named F) names) t × FieldsOf v t f
  spread_set names s {f} e is (here c) = absurd (Contains-nil f (subst (λ l. Contains l f) e c))
  spread_set names s {f} e is (spread {t = t} c a) = (t, subst (λ l. Contains (flat_map (sets_named F) l) t) is c, a)

  alone : (n : List ℕ) (t : SetNode) → Contains (flat_map (sets_named F) (n ∷ [])) t → Contains (sets_named F n) t
  alone n t c =
      let r = Contains-flat_map_from (sets_named F) (n ∷ []) t c in
      elim (Contains-cases r.0 n [] r.1) [
        | inl e ↦ subst (λ k. Contains (sets_named F k) t) e r.2
        | inr o ↦ absurd (Contains-nil r.0 o)
      ]

  pub one_set : (s b : SetNode) → Contains (s ∷ []) b → b ≡ s
  one_set s b c = elim (Contains-cases b s [] c) [ inl e ↦ e | inr n ↦ absurd (Contains-nil b n) ]

  -- the fragments of this name: at most one
  abbrev By : List ℕ → Type 0
  By n = (g : FragmentFact) × (F (key.FragmentOf n) ≡ fact.Fragment g)

  clean_name : (names : List (List ℕ)) (n : List ℕ) (s : SetNode) → AreClean F names → Contains names n → direct s ≡ [] → names_spread s ≡ n ∷ [] → IsClean F (s ∷ [])
  clean_name names n s clean has e is f g m k = let r = reached_of v (By n) (λ i. SeedsOf v (fragment_set F i.0 ∷ []))
      (reached_by v (SeedsOf v (s ∷ [])) (λ x y. (i : By n) × SeedsOf v (fragment_set F i.0 ∷ []) x y) seeds k.0) in
      clean n r.0.0 has r.0.1 f g m (r.1, k.1) where
        seeds : (x y : FieldNode) → SeedsOf v (s ∷ []) x y → (i : By n) × SeedsOf v (fragment_set F i.0 ∷ []) x y
        seeds x y b =
            let at = one_set s b.0 b.1 in
            let p = spread_set (n ∷ []) s e is (subst (λ z. FieldsOf v z x) at b.2) in
            let q = spread_set (n ∷ []) s e is (subst (λ z. FieldsOf v z y) at b.3) in
            let w = both_by (F (key.FragmentOf n)) p.0 q.0 (alone n p.0 p.1) (alone n q.0 q.1) in
            ((w.0, w.1), (fragment_set F w.0, Contains-here (fragment_set F w.0) [], subst (λ z. FieldsOf v z x) w.2 p.2, subst (λ z. FieldsOf v z y) w.3 q.2))

  clean_empty : (s : SetNode) → direct s ≡ [] → names_spread s ≡ [] → IsClean F (s ∷ [])
  clean_empty s e is f g m k = let r = reached_of v ⊥ (λ i x y. ⊥) (reached_by v (SeedsOf v (s ∷ [])) (λ x y. ⊥ × ⊥) seeds k.0) in absurd r.0 where
    seeds : (x y : FieldNode) → SeedsOf v (s ∷ []) x y → ⊥ × ⊥
    seeds x y b =
        let p = spread_set [] s e is (subst (λ z. FieldsOf v z x) (one_set s b.0 b.1) b.2) in
        absurd (Contains-nil p.0 p.1)

  clean_one : (names spreads : List (List ℕ)) (s : SetNode) → AreClean F names → IsOneOf names spreads → direct s ≡ [] → names_spread s ≡ spreads → IsClean F (s ∷ [])
  clean_one names [] s clean is e n = clean_empty s e n
  clean_one names (n ∷ []) s clean is e q = clean_name names n s clean is e q
  clean_one names (n ∷ (k ∷ rest)) s clean is e q = absurd is

  no_fields : (ns : List SetNode) (xs : List FlatField) (fs : List FieldNode) → xs ≡ [] → AreDrawn ns xs fs → fs ≡ []
  no_fields ns [] [] e d = refl
  no_fields ns [] (f ∷ fs) e d = absurd d
  no_fields ns (x ∷ xs) fs e d = let l : length (x ∷ xs) ≡ 0 = ap length e in absurd (omega (arith, l))

  light_set : (names : List (List ℕ)) (ns : List SetNode) (x : FlatSet) (s : SetNode) → AreClean F names → IsLight names x → IsSetDrawn ns x s → IsClean F (s ∷ [])
  light_set names ns x s clean light d =
      clean_one names (map (λ n. n.now) x.names.items) s clean light.1 (no_fields ns x.fields.items (direct s) light.0 d.fields) (sym d.names)

  light_each : (names : List (List ℕ)) (ns : List SetNode) (xs : List FlatSet) (sets : List SetNode) → AreClean F names → ((x : FlatSet) → Contains xs x → IsLight names x)
      → AreSetsDrawn ns xs sets → (s : SetNode) → Contains sets s → IsClean F (s ∷ [])
  light_each names ns [] [] clean light d s c = absurd (Contains-nil s c)
  light_each names ns [] (t ∷ ts) clean light d s c = absurd d
  light_each names ns (x ∷ xs) [] clean light d s c = absurd d
  light_each names ns (x ∷ xs) (t ∷ ts) clean light d s c = elim (Contains-cases s t ts c) [
    | inl e ↦ subst (λ z. IsClean F (z ∷ [])) (sym e) (light_set names ns x t clean (light x (Contains-here x xs)) d.0)
    | inr o ↦ light_each names ns xs ts clean (λ y k. light y (Contains-there y x xs k)) d.1 s o
  ]

  abbrev no_set : SetNode
  no_set = selection_set no_field_list []

  -- all but the last set, and the last
  first_sets : (names : List (List ℕ)) (ns : List SetNode) (xs : List FlatSet) (sets : List SetNode) (n : ℕ) → AreClean F names → ((x : FlatSet) → Contains (take n xs) x → IsLight names x)
      → AreSetsDrawn ns xs sets → n + 1 ≡ length sets → (s : SetNode) → Contains sets s → IsClean F (s ∷ []) ⊎ (s ≡ get_or sets n no_set)
  first_sets names ns [] [] n clean light d e s c = absurd (Contains-nil s c)
  first_sets names ns [] (t ∷ ts) n clean light d e s c = absurd d
  first_sets names ns (x ∷ xs) [] n clean light d e s c = absurd d
  first_sets names ns (x ∷ xs) (t ∷ []) zero clean light d e s c = inr (one_set t s c)
  first_sets names ns (x ∷ xs) (t ∷ (u ∷ us)) zero clean light d e s c = absurd (omega (arith, e))
  first_sets names ns (x ∷ xs) (t ∷ ts) (suc n) clean light d e s c = elim (Contains-cases s t ts c) [
    | inl same ↦ inl (subst (λ z. IsClean F (z ∷ [])) (sym same) (light_set names ns x t clean (light x (Contains-here x (take n xs))) d.0))
    | inr o ↦ first_sets names ns xs ts n clean (λ y k. light y (Contains-there y x (take n xs) k)) d.1 (omega (arith, e)) s o
  ]

  -- sets are clean if the first of them are light, and any other is clean
  pub light_sets : (names : List (List ℕ)) (xs : List FlatSet) (sets : List SetNode) (n : ℕ) → AreClean F names → ((x : FlatSet) → Contains (take n xs) x → IsLight names x) → Draws xs sets
      → IsFirstOf F sets n → IsClean F sets
  light_sets names xs sets n clean light d (inl e) =
      let all : take n xs ≡ xs = take_all n xs (let l = same_length sets xs sets d in omega (arith, e, l)) in
      clean_each sets (light_each names sets xs sets clean (λ x c. light x (subst (λ l. Contains l x) (sym all) c)) d)
  light_sets names xs sets n clean light d (inr k) = clean_each sets (λ s c. elim (first_sets names sets xs sets n clean light d k.0 s c) [
    | inl h ↦ h
    | inr e ↦ subst (λ z. IsClean F (z ∷ [])) (sym e) (k.1 n k.0)
  ])

  -- ---- what settled sets spread

  drawn_of : (ns : List SetNode) (xs : List FlatSet) (sets : List SetNode) → AreSetsDrawn ns xs sets → (s : SetNode) → Contains sets s → (x : FlatSet) × Contains xs x × (spread_names x ≡ names_spread s)
  drawn_of ns [] [] d s c = absurd (Contains-nil s c)
  drawn_of ns [] (t ∷ ts) d s c = absurd d
  drawn_of ns (x ∷ xs) [] d s c = absurd d
  drawn_of ns (x ∷ xs) (t ∷ ts) d s c = elim (Contains-cases s t ts c) [
    | inl e ↦ (x, Contains-here x xs, d.0.names ∙ ap names_spread (sym e))
    | inr o ↦ let r = drawn_of ns xs ts d.1 s o in (r.0, Contains-there r.0 x xs r.1, r.2)
  ]

  pub settled_spread : (names : List (List ℕ)) (xs : List FlatSet) (sets : List SetNode) → AreClean F names → ((x : FlatSet) → Contains xs x → IsSettled names x) → Draws xs sets
      → (s : SetNode) → Contains sets s → (t : SetNode) → Contains ((nodes F).spreads s) t → IsClean F (t ∷ [])
  settled_spread names xs sets clean settled d s c t h =
      let x = drawn_of sets xs sets d s c in
      let r = Contains-flat_map_from (sets_named F) (names_spread s) t h in
      let w = both_by (F (key.FragmentOf r.0)) t t r.2 r.2 in
      subst (λ z. IsClean F (z ∷ [])) (sym w.2) (clean r.0 w.0 (settled x.0 x.1 r.0 (subst (λ l. Contains l r.0) (sym x.2) r.1)) w.1)

  -- ---- names of clean fragments

  abbrev CleanBy : Fact → Type 0
  CleanBy (fact.Fragment g) = IsClean F (fragment_set F g ∷ [])
  CleanBy _ = Unit {0}

  -- the answer for a name is one fragment
  clean_same : (n m : List ℕ) (g h : FragmentFact) → F (key.FragmentOf n) ≡ fact.Fragment g → F (key.FragmentOf m) ≡ fact.Fragment h → n ≡ m → IsClean F (fragment_set F g ∷ []) → IsClean F (fragment_set F h ∷ [])
  clean_same n m g h a b e c = subst CleanBy (sym a ∙ ap (λ k. F (key.FragmentOf k)) e ∙ b) c

  -- a definition that is the fragment of its name
  abbrev fragment_of : Definition → Fragment → FragmentFact
  fragment_of d f = record { file = d.file; fragment = f }

  sets_of_fragment : (d : Definition) (f : Fragment) → d.tree ≡ tree.Fragment f → sets_in F d ≡ (fragment_part F d.file f).sets ++ fragment_set F (fragment_of d f) ∷ []
  sets_of_fragment d f e = ap (λ t. flat_map sets_of (list_of (tree_part F d.file t))) e ∙ append-nil (sets_of (fragment_part F d.file f))

  pub last_clean : (names : List (List ℕ)) (d : Definition) (f : Fragment) → d.tree ≡ tree.Fragment f → F (key.FragmentOf f.name.text) ≡ fact.Fragment (record { file = d.file; fragment = f })
      → Contains names f.name.text → AreClean F names → IsLastClean F (sets_in F d)
  last_clean names d f e is has clean n size =
      let g = fragment_of d f in
      let p = fragment_part F d.file f in
      let all = sets_of_fragment d f e in
      let long : n + 1 ≡ length (p.sets ++ fragment_set F g ∷ []) = size ∙ ap length all in
      let at : n ≡ length p.sets = omega (arith, long, length-append p.sets (fragment_set F g ∷ [])) in
      let last : get_or (sets_in F d) n no_set ≡ fragment_set F g = ap (λ l. get_or l n no_set) all ∙ ap (λ i. get_or (p.sets ++ fragment_set F g ∷ []) i no_set) at ∙ get_or-append_seam p.sets (fragment_set F g) [] no_set in
      subst (λ z. IsClean F (z ∷ [])) (sym last) (clean f.name.text g has is)

  pub clean_added : (f : Fragment) (d : Definition) (old new : List (List ℕ)) → d.tree ≡ tree.Fragment f → F (key.FragmentOf f.name.text) ≡ fact.Fragment (record { file = d.file; fragment = f })
      → IsClean F (sets_in F d) → MayAdd (λ n. n ≡ f.name.text) old new → AreClean F old → AreClean F new
  clean_added f d old new e is own added clean n h has at = elim (added.from n has) [
    | inl o ↦ clean n h o at
    | inr same ↦
        let g = fragment_of d f in
        let p = fragment_part F d.file f in
        let c : IsClean F (fragment_set F g ∷ []) = clean_part (fragment_set F g ∷ []) (p.sets ++ fragment_set F g ∷ []) (λ s k. Contains-append_right p.sets (fragment_set F g ∷ []) s k) (subst (IsClean F) (sets_of_fragment d f e) own) in
        clean_same f.name.text n g h is at (sym same) c
  ]

  -- the fragments of some numbers
  pub clean_at : (ns : List SetNode) (members : List FragmentFact) (number : List ℕ → Option ℕ) (P : ℕ → Type 0) (old new : List (List ℕ)) → IsIndex F ns members number
      → ((g : FragmentFact) → Contains members g → F (key.FragmentOf g.fragment.name.text) ≡ fact.Fragment g) → ((i : ℕ) → P i → IsClean F (get_or ns i no_set ∷ []))
      → MayAdd (λ n. (i : ℕ) × (number n ≡ Some i) × P i) old new → AreClean F old → AreClean F new
  clean_at ns members number P old new index named all added clean n h has at = elim (added.from n has) [
    | inl o ↦ clean n h o at
    | inr k ↦
        let i : IsIndexAt F ns members n (Some k.0) = subst (λ o. IsIndexAt F ns members n o) k.1 (index n) in
        let set : get_or ns k.0 no_set ≡ fragment_set F i.0 = get_or_from_slice_get ns k.0 (fragment_set F i.0) no_set i.3 in
        clean_same i.0.fragment.name.text n i.0 h (named i.0 i.1) at i.2 (subst (λ z. IsClean F (z ∷ [])) set (all k.0 k.2))
  ]

-- by what the steps say: the first sets, and what is light
module _ (F F1 F2 : Facts) (d : Definition) (own slice : List FlatSet) (n : ℕ) (last : Bool) (first : F1 ≡ F) (second : F2 ≡ F1) (drawn : Draws own (sets_in F d)) (sliced : slice ≡ own)
    (known : last ≡ true → IsLastClean F1 (sets_in F1 d)) (is : (n ≡ length slice) ⊎ ((last ≡ true) × (n + 1 ≡ length slice))) where
  long : length slice ≡ length (sets_in F d)
  long = ap length sliced ∙ same_length (sets_in F d) own (sets_in F d) drawn

  first_at : IsFirstOf F (sets_in F d) n
  first_at = elim is [
    | inl e ↦ inl (e ∙ long)
    | inr k ↦ inr (k.1 ∙ long, subst (λ (G : Facts). IsLastClean G (sets_in G d)) first (known k.0))
  ]

  pub first_of : IsFirstOf F2 (sets_in F2 d) n
  first_of = subst (λ (G : Facts). IsFirstOf G (sets_in G d) n) (sym (second ∙ first)) first_at

  pub light_here : (names : List (List ℕ)) (few : List FlatSet) → AreClean F names → few ≡ take n own → ((x : FlatSet) → Contains few x → IsLight names x) → IsClean F (sets_in F d)
  light_here names few clean taken light = light_sets F names own (sets_in F d) n clean (λ x c. light x (subst (λ l. Contains l x) (sym taken) c)) drawn first_at

  pub light_of : (names : List (List ℕ)) (few : List FlatSet) → AreClean F names → few ≡ take n own → ((x : FlatSet) → Contains few x → IsLight names x) → IsClean F2 (sets_in F2 d)
  light_of names few clean taken light = subst (λ (G : Facts). IsClean G (sets_in G d)) (sym (second ∙ first)) (light_here names few clean taken light)

-- no pair of numbers clashes, and so no two fields do
module _ (F : Facts) (z : Sets) (node : ℕ → FieldNode) (set : ℕ → SetNode) (q : IsNumbered (nodes F) (nodes_of z) node set)
    (seeds : List ℕ) (found : numbered.Lists [] (IsClashPair z (SeedsOf (nodes_of z) seeds))) where
  pub none_clash : IsClean F (map set seeds)
  none_clash f g m c =
      let r = carrying.of_back FieldNode SetNode (nodes F) (nodes_of z) node set q seeds f g m c in
      let s = SeedsOf (nodes_of z) seeds in
      Contains-nil (pair_of r.0 r.1 m) (found.complete (pair_of r.0 r.1 m) (clash_of z s r.0 r.1 m (two_reached z s r.2.0) r.2.0 r.2.1))

-- a body that is clean is a clean set
module _ (F : Facts) (z : Sets) (node : ℕ → FieldNode) (set : ℕ → SetNode) (q : IsNumbered (nodes F) (nodes_of z) node set) (c : ℕ) where
  pub clean_set : IsCleanBody z c → IsClean F (set c ∷ [])
  clean_set clean f g m k = let r = carrying.of_back FieldNode SetNode (nodes F) (nodes_of z) node set q (c ∷ []) f g m k in clean r.0 r.1 m r.2

  pub clean_body_of : IsClean F (set c ∷ []) → IsCleanBody z c
  clean_body_of clean f g m k = clean (node f) (node g) m (carrying.of_there FieldNode SetNode (nodes F) (nodes_of z) node set q (c ∷ []) f g m k)

-- what a body spreads is clean if that is
module _ (z : Sets) where
  pub clean_on : (s t : ℕ) → SpreadsTo (nodes_of z) s t → IsCleanBody z s → IsCleanBody z t
  clean_on s t a clean f g m k = clean f g m (
    reached_by (nodes_of z) (SeedsOf (nodes_of z) (t ∷ [])) (SeedsOf (nodes_of z) (s ∷ [])) (λ x y b.
        let e = one_body t b.0 b.1 in
        (s, Contains-here s [], fields_on x a (subst (λ i. FieldsOf (nodes_of z) i x) e b.2), fields_on y a (subst (λ i. FieldsOf (nodes_of z) i y) e b.3))) k.0,
    k.1,
  ) where
    one_body : (t b : ℕ) → Contains (t ∷ []) b → b ≡ t
    one_body t b c = elim (Contains-cases b t [] c) [ inl e ↦ e | inr n ↦ absurd (Contains-nil b n) ]

    fields_on : {s t : ℕ} (x : ℕ) → SpreadsTo (nodes_of z) s t → FieldsOf (nodes_of z) t x → FieldsOf (nodes_of z) s x
    fields_on x (itself) h = h
    fields_on x (more c a) h = spread c (fields_on x a h)

  pub clean_one_of : (bodies : List ℕ) (s : ℕ) → Contains bodies s → numbered.Lists [] (IsClashPair z (SeedsOf (nodes_of z) bodies)) → IsCleanBody z s
  clean_one_of bodies s c found f g m k =
      let all = SeedsOf (nodes_of z) bodies in
      let r = reached_by (nodes_of z) (SeedsOf (nodes_of z) (s ∷ [])) all (λ x y b.
      let e : b.0 ≡ s = elim (Contains-cases b.0 s [] b.1) [ inl e ↦ e | inr n ↦ absurd (Contains-nil b.0 n) ] in
      (s, c, subst (λ i. FieldsOf (nodes_of z) i x) e b.2, subst (λ i. FieldsOf (nodes_of z) i y) e b.3)) k.0 in
      Contains-nil (pair_of f g m) (found.complete (pair_of f g m) (clash_of z all f g m (two_reached z all r) r k.1))

  -- one clean body more changes nothing
  pub clean_last : (bodies : List ℕ) (n : ℕ) (pairs : List Pair) → IsCleanBody z n → numbered.Lists pairs (IsClashPair z (SeedsOf (nodes_of z) bodies)) → numbered.Lists pairs (IsClashPair z (SeedsOf (nodes_of z) (bodies ++ n ∷ [])))
  clean_last bodies n pairs clean l = record {
    sound = λ p c. let h = l.sound p c in
        (h.0, (reached_by (nodes_of z) (SeedsOf (nodes_of z) bodies) (SeedsOf (nodes_of z) (bodies ++ n ∷ [])) (λ x y b. (b.0, Contains-append_left bodies (n ∷ []) b.0 b.1, b.2, b.3)) h.1.0, h.1.1));
    complete = λ p h.
        let r = in_one (nodes_of z) (bodies ++ n ∷ []) h.1 in
        elim (Contains-append_cases bodies (n ∷ []) r.0 r.1) [
          | inl a ↦ l.complete p (
            h.0,
            (
              reached_by (nodes_of z) (SeedsOf (nodes_of z) (r.0 ∷ [])) (SeedsOf (nodes_of z) bodies) (λ x y b.
                  let e : b.0 ≡ r.0 = elim (Contains-cases b.0 r.0 [] b.1) [ inl e ↦ e | inr k ↦ absurd (Contains-nil b.0 k) ] in
                  (r.0, a, subst (λ i. FieldsOf (nodes_of z) i x) e b.2, subst (λ i. FieldsOf (nodes_of z) i y) e b.3)) r.2.0,
              h.1.1,
            ),
          )
          | inr a ↦
              let e : r.0 ≡ n = elim (Contains-cases r.0 n [] a) [ inl e ↦ e | inr k ↦ absurd (Contains-nil r.0 k) ] in
              absurd (clean p.first p.second p.mode (subst (λ i. IsClash (nodes_of z) (SeedsOf (nodes_of z) (i ∷ [])) p.first p.second p.mode) e r.2))
        ];
  }
