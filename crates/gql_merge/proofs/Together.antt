-- The faults of the pairs of numbers are those of the definition.
use Rattle.std.specs.Prelude.{◌≡◌, ℕ, List, [], ◌∷◌, map, flat_map, Bool, true, false, refl, Some, Contains, if◌then◌else◌}
use Rattle.std.specs.List.{slice_get}
use Rattle.std.proofs.Common.{ap, sym, ◌∙◌, subst, inl, inr}
use Rattle.std.proofs.lemmas.Bool.{cases_lt}
use Rattle.std.proofs.lemmas.List.Elements.{Contains-append_left, Contains-append_right, Contains-append_cases}
use Rattle.gql_ast.specs.declared.definition.Definition.{Definition}
use Rattle.gql_ast.specs.declared.fault.Fault.{Fault}
use Rattle.gql_ast.specs.declared.fault.FilePlace.{FilePlace}
use Rattle.gql_ast.specs.declared.rule.Rule.{Rule}
use Rattle.gql_ast.specs.declared.rule.Rule.TheVariants as rule
use Rattle.gql_clashes.proofs.Carrying as carrying
use Rattle.gql_clashes.proofs.Cover.{bad_turns, two_turn}
use Rattle.gql_clashes.proofs.Reading.{number_tests}
use Rattle.gql_clashes.proofs.Searching.{clash_of}
use Rattle.gql_clashes.proofs.Turning.{pair_less, pair_more}
use Rattle.gql_clashes.specs.Clashes.{AreTwo, IsClash, Nodes, Reached, SeedsOf, seed, step, turn}
use Rattle.gql_clashes.specs.Compared.{pair_of}
use Rattle.gql_clashes.specs.Numbered as numbered
use Rattle.gql_clashes.specs.Numbered.{IsClashPair, nodes_of}
use Rattle.gql_clashes.specs.Numbering.{IsNumbered, IsUsed}
use Rattle.gql_clashes.specs.declared.sets.Mode.{Mode}
use Rattle.gql_clashes.specs.declared.sets.Pair.{Pair}
use Rattle.gql_clashes.specs.declared.sets.Sets.{Sets}
use Rattle.gql_facts.specs.ListMembers.{Contains-cases, Contains-flat_map, Contains-flat_map_from, Contains-here, Contains-nil, either}
use Rattle.gql_facts.specs.Members.{Lists}
use Rattle.gql_facts.specs.Worlds.{Facts}
use Rattle.gql_merge.proofs.BeforeFields.{after, call_turns, or_else, shape_turns}
use Rattle.gql_merge.specs.Conflicts.{fault_of_pair}
use Rattle.gql_merge.specs.FieldNodes.{FieldInfo, FieldNode, SetNode}
use Rattle.gql_merge.specs.Known.{info_in}
use Rattle.gql_merge.specs.MergeFaults.{IsMergeFault, by_v05, by_v06}
use Rattle.gql_merge.specs.MergedNodes.{is_before, nodes, sets_in}
use Rattle.gql_merge.specs.PairFaults.{call_faults, differ_in_call, differ_in_shape, faults_if, faults_of, ordered_fault, pair_faults, shape_faults}
use Rattle.gql_merge.specs.V05DifferentCalls as v05
use Rattle.gql_merge.specs.V06DifferentShapes as v06
use Rattle.gql_merge.specs.declared.flat.FlatField.{FlatField}
use Rattle.gql_rules.specs.LocalFaults.{owner_of}

-- ---- the faults of two fields

listed_if : (b : Bool) (x f : Fault) → Contains (if b then x ∷ [] else []) f → (b ≡ true) × (f ≡ x)
listed_if true x f c = elim (Contains-cases f x [] c) [
  | inl e ↦ (refl, e)
  | inr n ↦ absurd (Contains-nil f n)
]
listed_if false x f c = absurd (Contains-nil f c)

has_if : (b : Bool) (x f : Fault) → b ≡ true → f ≡ x → Contains (if b then x ∷ [] else []) f
has_if b x f t e = subst (λ c. Contains (if c then x ∷ [] else []) f) (sym t) (subst (λ y. Contains (x ∷ []) y) (sym e) (Contains-here x []))

in_order : (o : FilePlace) (r : Rule) (i j : FieldInfo) → is_before i j ≡ true → ordered_fault o r i j ≡ fault_of_pair o r i j
in_order o r i j t = ap (λ b. if b then fault_of_pair o r i j else fault_of_pair o r j i) t

turned : (o : FilePlace) (r : Rule) (i j : FieldInfo) → is_before i j ≡ false → ordered_fault o r i j ≡ fault_of_pair o r j i
turned o r i j t = ap (λ b. if b then fault_of_pair o r i j else fault_of_pair o r j i) t

-- the fault of two fields is there for either order of the two
call_here : (o : FilePlace) (m : Mode) (i j : FieldInfo) → differ_in_call m i j ≡ true → is_before i j ≡ true → Contains (faults_of o m i j) (fault_of_pair o rule.V05 i j)
call_here o m i j bad t = Contains-append_left (call_faults o m i j) (shape_faults o i j) (fault_of_pair o rule.V05 i j)
    (has_if (differ_in_call m i j) (ordered_fault o rule.V05 i j) (fault_of_pair o rule.V05 i j) bad (sym (in_order o rule.V05 i j t)))

call_back : (o : FilePlace) (m : Mode) (i j : FieldInfo) → differ_in_call m i j ≡ true → is_before i j ≡ true → Contains (faults_of o m j i) (fault_of_pair o rule.V05 i j)
call_back o m i j bad t = Contains-append_left (call_faults o m j i) (shape_faults o j i) (fault_of_pair o rule.V05 i j)
    (has_if (differ_in_call m j i) (ordered_fault o rule.V05 j i) (fault_of_pair o rule.V05 i j) (call_turns m j i ∙ bad) (sym (turned o rule.V05 j i (after i j t))))

shape_here : (o : FilePlace) (m : Mode) (i j : FieldInfo) → differ_in_shape i j ≡ true → is_before i j ≡ true → Contains (faults_of o m i j) (fault_of_pair o rule.V06 i j)
shape_here o m i j bad t = Contains-append_right (call_faults o m i j) (shape_faults o i j) (fault_of_pair o rule.V06 i j)
    (has_if (differ_in_shape i j) (ordered_fault o rule.V06 i j) (fault_of_pair o rule.V06 i j) bad (sym (in_order o rule.V06 i j t)))

shape_back : (o : FilePlace) (m : Mode) (i j : FieldInfo) → differ_in_shape i j ≡ true → is_before i j ≡ true → Contains (faults_of o m j i) (fault_of_pair o rule.V06 i j)
shape_back o m i j bad t = Contains-append_right (call_faults o m j i) (shape_faults o j i) (fault_of_pair o rule.V06 i j)
    (has_if (differ_in_shape j i) (ordered_fault o rule.V06 j i) (fault_of_pair o rule.V06 i j) (shape_turns j i ∙ bad) (sym (turned o rule.V06 j i (after i j t))))

-- ---- pairs that are reached

pub two_reached : (z : Sets) (seeds : ℕ → ℕ → Type 0) {f g : ℕ} {m : Mode} → Reached (nodes_of z) seeds f g m → AreTwo (nodes_of z) f g
two_reached z seeds (seed two s) = two
two_reached z seeds (turn {f} {g} r) = two_turn (nodes_of z) (number_tests z) f g (two_reached z seeds r)
two_reached z seeds (step r fine is a b two) = two

-- the field of a number is the one that is kept
abbrev pub IsFieldAt : List FlatField → (ℕ → FieldNode) → ℕ → Type 0
IsFieldAt all node f = (x : FlatField) × (slice_get all f ≡ Some x) × (info_in x.known ≡ (node f).its)

module _ (F : Facts) (d : Definition) (z : Sets) (node : ℕ → FieldNode) (set : ℕ → SetNode) (q : IsNumbered (nodes F) (nodes_of z) node set)
    (all : List FlatField) (at : (f : ℕ) → IsUsed (nodes_of z) f → IsFieldAt all node f)
    (seeds : List ℕ) (seeded : map set seeds ≡ sets_in F d) where
  abbrev v : Nodes FieldNode SetNode
  v = nodes F

  abbrev w : Nodes ℕ ℕ
  w = nodes_of z

  abbrev owner : FilePlace
  owner = owner_of d

  abbrev Clash : FieldNode → FieldNode → Mode → Type 0
  Clash = IsClash v (SeedsOf v (sets_in F d))

  used : (a b : ℕ) (m : Mode) → IsClash w (SeedsOf w seeds) a b m → IsUsed w a × IsUsed w b
  used a b m c = carrying.both_used FieldNode SetNode v w node set q (SeedsOf w seeds) (SeedsOf v (map set seeds)) (carrying.of_used FieldNode SetNode v w node set q seeds) c.0

  there : (a b : ℕ) (m : Mode) → IsClash w (SeedsOf w seeds) a b m → Clash (node a) (node b) m
  there a b m c = subst (λ l. IsClash v (SeedsOf v l) (node a) (node b) m) seeded (carrying.of_there FieldNode SetNode v w node set q seeds a b m c)

  faults_at : (a b : ℕ) (m : Mode) → IsUsed w a → IsUsed w b
      → pair_faults owner all (record { first = a; second = b; mode = m }) ≡ faults_of owner m (node a).its (node b).its
  faults_at a b m ua ub =
      let x = at a ua in
      let y = at b ub in
      ap (λ o. faults_if owner m o (slice_get all b)) x.1 ∙ ap (λ o. faults_if owner m (Some x.0) o) y.1
      ∙ ap (λ i. faults_of owner m i (info_in y.0.known)) x.2 ∙ ap (λ i. faults_of owner m (node a).its i) y.2

  -- what is found is a fault
  call_fault : (f g : FieldNode) (m : Mode) → Clash f g m → Clash g f m → v.is_one f g ≡ false → differ_in_call m f.its g.its ≡ true
      → IsMergeFault F d (ordered_fault owner rule.V05 f.its g.its)
  call_fault f g m c b one bad = elim (either (is_before f.its g.its)) [
    | inl t ↦ subst (IsMergeFault F d) (sym (in_order owner rule.V05 f.its g.its t)) (by_v05 (v05.differ {f = f} {g = g} {m = m} (c, t) bad))
    | inr n ↦ subst (IsMergeFault F d) (sym (turned owner rule.V05 f.its g.its n)) (by_v05 (v05.differ {f = g} {g = f} {m = m} (b, or_else f.its g.its one n) (call_turns m g.its f.its ∙ bad)))
  ]

  shape_fault : (f g : FieldNode) (m : Mode) → Clash f g m → Clash g f m → v.is_one f g ≡ false → differ_in_shape f.its g.its ≡ true
      → IsMergeFault F d (ordered_fault owner rule.V06 f.its g.its)
  shape_fault f g m c b one bad = elim (either (is_before f.its g.its)) [
    | inl t ↦ subst (IsMergeFault F d) (sym (in_order owner rule.V06 f.its g.its t)) (by_v06 (v06.differ {f = f} {g = g} {m = m} (c, t) bad))
    | inr n ↦ subst (IsMergeFault F d) (sym (turned owner rule.V06 f.its g.its n)) (by_v06 (v06.differ {f = g} {g = f} {m = m} (b, or_else f.its g.its one n) (shape_turns g.its f.its ∙ bad)))
  ]

  of_two : (f g : FieldNode) (m : Mode) (x : Fault) → Clash f g m → Clash g f m → v.is_one f g ≡ false → Contains (faults_of owner m f.its g.its) x → IsMergeFault F d x
  of_two f g m x c b one h = elim (Contains-append_cases (call_faults owner m f.its g.its) (shape_faults owner f.its g.its) x h) [
    | inl i ↦ let r = listed_if (differ_in_call m f.its g.its) (ordered_fault owner rule.V05 f.its g.its) x i in
        subst (IsMergeFault F d) (sym r.1) (call_fault f g m c b one r.0)
    | inr o ↦ let r = listed_if (differ_in_shape f.its g.its) (ordered_fault owner rule.V06 f.its g.its) x o in
        subst (IsMergeFault F d) (sym r.1) (shape_fault f g m c b one r.0)
  ]

  module _ (pairs : List Pair) (clashing : numbered.Lists pairs (IsClashPair z (SeedsOf w seeds))) where
    sound : (x : Fault) → Contains (flat_map (pair_faults owner all) pairs) x → IsMergeFault F d x
    sound x h =
        let r = Contains-flat_map_from (pair_faults owner all) pairs x h in
        let a = r.0.first in
        let b = r.0.second in
        let m = r.0.mode in
        let c = (clashing.sound r.0 r.1).1 in
        let u = used a b m c in
        let two = two_reached z (SeedsOf w seeds) c.0 in
        let back : IsClash w (SeedsOf w seeds) b a m = (turn c.0, bad_turns w (number_tests z) m b a ∙ c.1) in
        of_two (node a) (node b) m x (there a b m c) (there b a m back) (q.is_one a b u.0 u.1 ∙ two.0)
        (subst (λ l. Contains l x) (faults_at a b m u.0 u.1) r.2)

    -- and each fault is found
    found : (f g : FieldNode) (m : Mode) (x : Fault) → Clash f g m → Contains (faults_of owner m f.its g.its) x → Contains (faults_of owner m g.its f.its) x
        → Contains (flat_map (pair_faults owner all) pairs) x
    found f g m x c here back =
        let r = carrying.of_back FieldNode SetNode v w node set q seeds f g m (subst (λ l. IsClash v (SeedsOf v l) f g m) (sym seeded) c) in
        let a = r.0 in
        let b = r.1 in
        let u = used a b m r.2 in
        let p = clashing.complete (pair_of a b m) (clash_of z (SeedsOf w seeds) a b m (two_reached z (SeedsOf w seeds) r.2.0) r.2.0 r.2.1) in
        Contains-flat_map (pair_faults owner all) pairs (pair_of a b m) x p (elim (cases_lt a b) [
          | inl l ↦ subst (λ y. Contains (pair_faults owner all y) x) (sym (pair_less a b m l))
              (subst (λ k. Contains k x) (sym (faults_at a b m u.0 u.1 ∙ ap (λ n. faults_of owner m n.its (node b).its) r.3 ∙ ap (λ n. faults_of owner m f.its n.its) r.4)) here)
          | inr h ↦ subst (λ y. Contains (pair_faults owner all y) x) (sym (pair_more a b m h))
              (subst (λ k. Contains k x) (sym (faults_at b a m u.1 u.0 ∙ ap (λ n. faults_of owner m n.its (node a).its) r.4 ∙ ap (λ n. faults_of owner m g.its n.its) r.3)) back)
        ])

    complete : (x : Fault) → IsMergeFault F d x → Contains (flat_map (pair_faults owner all) pairs) x
    complete x (by_v05 (v05.differ {f = f} {g = g} {m = m} c bad)) =
        found f g m (fault_of_pair owner rule.V05 f.its g.its) c.0 (call_here owner m f.its g.its bad c.1) (call_back owner m f.its g.its bad c.1)
    complete x (by_v06 (v06.differ {f = f} {g = g} {m = m} c bad)) =
        found f g m (fault_of_pair owner rule.V06 f.its g.its) c.0 (shape_here owner m f.its g.its bad c.1) (shape_back owner m f.its g.its bad c.1)

    pub lists : Lists (flat_map (pair_faults owner all) pairs) (IsMergeFault F d)
    lists = record { sound = sound; complete = complete }
