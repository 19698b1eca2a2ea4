-- The bad pairs of numbers between two bodies are those between the fragments whose own sets they are.
use Rattle.std.specs.Prelude.{◌≡◌, ℕ, List, [], ◌∷◌, flat_map, true, false, Some, Contains, if◌then◌else◌}
use Rattle.std.specs.List.{slice_get}
use Rattle.std.proofs.Common.{ap, sym, ◌∙◌, subst, inl, inr}
use Rattle.std.proofs.lemmas.Bool.{cases_lt}
use Rattle.gql_clashes.proofs.Carrying as carrying
use Rattle.gql_clashes.proofs.Cover.{bad_turns}
use Rattle.gql_clashes.proofs.Joining.{reached_by}
use Rattle.gql_clashes.proofs.Reading.{number_tests}
use Rattle.gql_clashes.proofs.Searching.{clash_of}
use Rattle.gql_clashes.proofs.Turning.{pair_less, pair_more}
use Rattle.gql_clashes.specs.Clashes.{IsClash, Nodes, SeedsBetween, turn}
use Rattle.gql_clashes.specs.Compared.{pair_of}
use Rattle.gql_clashes.specs.Numbered as numbered
use Rattle.gql_clashes.specs.Numbered.{IsClashPair, nodes_of}
use Rattle.gql_clashes.specs.Numbering.{IsNumbered, IsUsed}
use Rattle.gql_clashes.specs.PairsOf.{SeedsAmong}
use Rattle.gql_clashes.specs.declared.search.Item.{Item}
use Rattle.gql_clashes.specs.declared.sets.Mode.{Mode}
use Rattle.gql_clashes.specs.declared.sets.Mode.TheVariants.{Merge}
use Rattle.gql_clashes.specs.declared.sets.Pair.{Pair}
use Rattle.gql_clashes.specs.declared.sets.Sets.{Sets}
use Rattle.gql_facts.specs.ListMembers.{Contains-cases, Contains-flat_map, Contains-flat_map_from, Contains-here, Contains-nil, either}
use Rattle.gql_facts.specs.Members.{Lists}
use Rattle.gql_facts.specs.Worlds.{Facts}
use Rattle.gql_facts.specs.declared.fact.FragmentFact.{FragmentFact}
use Rattle.gql_merge.proofs.BeforeFields.{after, or_else}
use Rattle.gql_merge.proofs.Together.{IsFieldAt, two_reached}
use Rattle.gql_merge.specs.BadPairs.{IsBadAt, bad_at, bad_if, bad_of, ordered_bad}
use Rattle.gql_merge.specs.Between.{IsBadBetween, clash}
use Rattle.gql_merge.specs.FieldNodes.{FieldInfo, FieldNode, SetNode}
use Rattle.gql_merge.specs.Known.{info_in}
use Rattle.gql_merge.specs.MergedNodes.{fragment_set, is_before, nodes}
use Rattle.gql_merge.specs.declared.bad_pair.BadPair.{BadPair}
use Rattle.gql_merge.specs.declared.flat.FlatField.{FlatField}

-- ---- of two bodies

-- the item of two bodies, in this order
abbrev pub item_at : ℕ → ℕ → Item
item_at s t = record { left = s; right = t; mode = Merge }

module _ (z : Sets) (all : List FlatField) (left right : ℕ) (items : List Item) (is : items ≡ item_at left right ∷ []) where
  to_two : (f g : ℕ) → SeedsAmong (nodes_of z) items f g → SeedsBetween (nodes_of z) left right f g
  to_two f g s =
      let e : s.0 ≡ item_at left right = elim (Contains-cases s.0 (item_at left right) [] (subst (λ l. Contains l s.0) is s.1)) [
        | inl e ↦ e
        | inr n ↦ absurd (Contains-nil s.0 n)
      ] in
      subst (λ (x : Item). SeedsBetween (nodes_of z) x.left x.right f g) e s.2

  of_two_bodies : (f g : ℕ) → SeedsBetween (nodes_of z) left right f g → SeedsAmong (nodes_of z) items f g
  of_two_bodies f g s = (item_at left right, subst (λ l. Contains l (item_at left right)) (sym is) (Contains-here (item_at left right) []), s)

  pub at_bodies : (pairs : List Pair) (bad : List BadPair) → numbered.Lists pairs (IsClashPair z (SeedsAmong (nodes_of z) items))
      → bad ≡ flat_map (bad_at all) pairs → Lists bad (IsBadAt z all left right)
  at_bodies pairs bad l e = rw e (record {
    sound = λ b c.
        let r = Contains-flat_map_from (bad_at all) pairs b c in
        let k = l.sound r.0 r.1 in
        (r.0, (k.0, (reached_by (nodes_of z) (SeedsAmong (nodes_of z) items) (SeedsBetween (nodes_of z) left right) to_two k.1.0, k.1.1)), r.2);
    complete = λ b k. Contains-flat_map (bad_at all) pairs k.0 b
        (l.complete k.0 (k.1.0, (reached_by (nodes_of z) (SeedsBetween (nodes_of z) left right) (SeedsAmong (nodes_of z) items) of_two_bodies k.1.1.0, k.1.1.1))) k.2;
  })

-- ---- of two fragments

in_order : (m : Mode) (i j : FieldInfo) → is_before i j ≡ true → ordered_bad m i j ≡ bad_of m i j
in_order m i j t = ap (λ b. if b then bad_of m i j else bad_of m j i) t

turned : (m : Mode) (i j : FieldInfo) → is_before i j ≡ false → ordered_bad m i j ≡ bad_of m j i
turned m i j t = ap (λ b. if b then bad_of m i j else bad_of m j i) t

the_one : (x b : BadPair) → Contains (x ∷ []) b → b ≡ x
the_one x b c = elim (Contains-cases b x [] c) [ inl e ↦ e | inr n ↦ absurd (Contains-nil b n) ]

module _ (F : Facts) (z : Sets) (node : ℕ → FieldNode) (set : ℕ → SetNode) (q : IsNumbered (nodes F) (nodes_of z) node set)
    (all : List FlatField) (at : (f : ℕ) → IsUsed (nodes_of z) f → IsFieldAt all node f)
    (g h : FragmentFact) (s t : ℕ) (own : set s ≡ fragment_set F g) (other : set t ≡ fragment_set F h) where
  abbrev v : Nodes FieldNode SetNode
  v = nodes F

  abbrev w : Nodes ℕ ℕ
  w = nodes_of z

  abbrev Seeds : ℕ → ℕ → Type 0
  Seeds = SeedsBetween w s t

  abbrev Clash : FieldNode → FieldNode → Mode → Type 0
  Clash = IsClash v (SeedsBetween v (fragment_set F g) (fragment_set F h))

  used : (a b : ℕ) (m : Mode) → IsClash w Seeds a b m → IsUsed w a × IsUsed w b
  used a b m c = carrying.both_used FieldNode SetNode v w node set q Seeds (SeedsBetween v (set s) (set t)) (carrying.between_used FieldNode SetNode v w node set q s t) c.0

  there : (a b : ℕ) (m : Mode) → IsClash w Seeds a b m → Clash (node a) (node b) m
  there a b m c = subst (λ k. IsClash v (SeedsBetween v k (fragment_set F h)) (node a) (node b) m) own
      (subst (λ k. IsClash v (SeedsBetween v (set s) k) (node a) (node b) m) other
      (carrying.between_there FieldNode SetNode v w node set q s t a b m c))

  bad_is : (a b : ℕ) (m : Mode) → IsUsed w a → IsUsed w b
      → bad_at all (record { first = a; second = b; mode = m }) ≡ ordered_bad m (node a).its (node b).its ∷ []
  bad_is a b m ua ub =
      let x = at a ua in
      let y = at b ub in
      ap (λ o. bad_if m o (slice_get all b)) x.1 ∙ ap (λ o. bad_if m (Some x.0) o) y.1
      ∙ ap (λ i. ordered_bad m i (info_in y.0.known) ∷ []) x.2 ∙ ap (λ i. ordered_bad m (node a).its i ∷ []) y.2

  of_two : (x y : FieldNode) (m : Mode) → Clash x y m → Clash y x m → v.is_one x y ≡ false → IsBadBetween F g h (ordered_bad m x.its y.its)
  of_two x y m c b one = elim (either (is_before x.its y.its)) [
    | inl l ↦ subst (IsBadBetween F g h) (sym (in_order m x.its y.its l)) (clash {x = x} {y = y} {m = m} c l)
    | inr n ↦ subst (IsBadBetween F g h) (sym (turned m x.its y.its n)) (clash {x = y} {y = x} {m = m} b (or_else x.its y.its one n))
  ]

  pub sound : (b : BadPair) → IsBadAt z all s t b → IsBadBetween F g h b
  sound b k =
      let p : Pair = k.0 in
      let a = p.first in
      let e = p.second in
      let m = p.mode in
      let c : IsClash w Seeds a e m = k.1.1 in
      let u = used a e m c in
      let two = two_reached z Seeds c.0 in
      let back : IsClash w Seeds e a m = (turn c.0, bad_turns w (number_tests z) m e a ∙ c.1) in
      let is : b ≡ ordered_bad m (node a).its (node e).its = the_one (ordered_bad m (node a).its (node e).its) b (subst (λ l. Contains l b) (bad_is a e m u.0 u.1) k.2) in
      subst (IsBadBetween F g h) (sym is) (of_two (node a) (node e) m (there a e m c) (there e a m back) (q.is_one a e u.0 u.1 ∙ two.0))

  found : (x y : FieldNode) (m : Mode) → Clash x y m → is_before x.its y.its ≡ true → IsBadAt z all s t (bad_of m x.its y.its)
  found x y m c l =
      let c' : IsClash v (SeedsBetween v (set s) (set t)) x y m = subst (λ k. IsClash v (SeedsBetween v k (set t)) x y m) (sym own)
      (subst (λ k. IsClash v (SeedsBetween v (fragment_set F g) k) x y m) (sym other) c) in
      let r = carrying.between_back FieldNode SetNode v w node set q s t x y m c' in
      let a = r.0 in
      let b = r.1 in
      let u = used a b m r.2 in
      let k = clash_of z Seeds a b m (two_reached z Seeds r.2.0) r.2.0 r.2.1 in
      let ex = r.3 in
      let ey = r.4 in (
        pair_of a b m,
        k,
        elim (cases_lt a b) [
          | inl lt ↦ subst (λ p. Contains (bad_at all p) (bad_of m x.its y.its)) (sym (pair_less a b m lt))
              (subst (λ k. Contains k (bad_of m x.its y.its))
              (sym (bad_is a b m u.0 u.1 ∙ ap (λ n. ordered_bad m n.its (node b).its ∷ []) ex ∙ ap (λ n. ordered_bad m x.its n.its ∷ []) ey ∙ ap (λ o. o ∷ []) (in_order m x.its y.its l)))
              (Contains-here (bad_of m x.its y.its) []))
          | inr ge ↦ subst (λ p. Contains (bad_at all p) (bad_of m x.its y.its)) (sym (pair_more a b m ge))
              (subst (λ k. Contains k (bad_of m x.its y.its))
              (sym (bad_is b a m u.1 u.0 ∙ ap (λ n. ordered_bad m n.its (node a).its ∷ []) ey ∙ ap (λ n. ordered_bad m y.its n.its ∷ []) ex ∙ ap (λ o. o ∷ []) (turned m y.its x.its (after x.its y.its l))))
              (Contains-here (bad_of m x.its y.its) []))
        ],
      )

  pub complete : (b : BadPair) → IsBadBetween F g h b → IsBadAt z all s t b
  complete b (clash {x = x} {y = y} {m = m} c l) = found x y m c l
