-- Facts that agree on what a definition reads give it the same faults by the rules on merging.
use Rattle.std.specs.Prelude.{◌≡◌, ◌↔◌, ◌⊎◌, ℕ, List, [], ◌∷◌, ◌++◌, flat_map, refl, Some, Contains}
use Rattle.std.proofs.Common.{ap, sym, ◌∙◌, subst, inl, inr}
use Rattle.std.proofs.lemmas.List.Elements.{Contains-append_left, Contains-append_right}
use Rattle.gql_ast.specs.declared.definition.Definition.{Definition}
use Rattle.gql_ast.specs.declared.definition.Tree.{Tree}
use Rattle.gql_ast.specs.declared.definition.Tree.TheVariants as tree
use Rattle.gql_ast.specs.declared.fault.Fault.{Fault}
use Rattle.gql_clashes.specs.Clashes.{Below, FieldsOf, IsClash, Reached, SeedsBetween, SeedsOf, here, seed, spread, step, turn}
use Rattle.gql_clashes.specs.declared.sets.Mode.{Mode}
use Rattle.gql_facts.specs.Floats.{float_read}
use Rattle.gql_facts.specs.ListMembers.{Contains-flat_map_from, Contains-here, Contains-nil, Contains-there}
use Rattle.gql_facts.specs.Nodes.{composite}
use Rattle.gql_facts.specs.OwnReads.{fragment_reads, root_parent}
use Rattle.gql_facts.specs.Reads.{Agree, Reaches, Reads, by_definition, by_fragment, of_fragment, own}
use Rattle.gql_facts.specs.Worlds.{Facts}
use Rattle.gql_facts.specs.declared.fact.Fact.{Fact}
use Rattle.gql_facts.specs.declared.fact.Fact.TheVariants as fact
use Rattle.gql_facts.specs.declared.fact.FragmentFact.{FragmentFact}
use Rattle.gql_facts.specs.declared.key.Key.{Key}
use Rattle.gql_facts.specs.declared.key.Key.TheVariants as key
use Rattle.gql_merge.proofs.Appending.{append_end}
use Rattle.gql_merge.proofs.Closed.{closed, own_closed}
use Rattle.gql_merge.proofs.NamesRead.{of_fragment_asked, of_tree_asked}
use Rattle.gql_merge.proofs.SameParts.{fragment_same, tree_same}
use Rattle.gql_merge.specs.Between as between
use Rattle.gql_merge.specs.Between.{IsBadBetween, IsClashBetween, PairReads, definition_of}
use Rattle.gql_merge.specs.FieldNodes.{FieldNode, SetNode, direct, names_spread}
use Rattle.gql_merge.specs.FieldSets.{list_of, set_of}
use Rattle.gql_merge.specs.Flattened.{fragment_sets}
use Rattle.gql_merge.specs.MergeFaults.{IsMergeFault, by_v05, by_v06}
use Rattle.gql_merge.specs.MergedNodes.{fragment_part, fragment_set, nodes, operation_part, sets_by, sets_in, sets_named, sets_of, tree_part}
use Rattle.gql_merge.specs.V05DifferentCalls as v05
use Rattle.gql_merge.specs.V06DifferentShapes as v06
use Rattle.gql_merge.specs.declared.bad_pair.BadPair.{BadPair}

-- ---- what is reached by facts F is reached by facts G, where they lead to the same sets

module _ (F G : Facts) (P : SetNode → Type 0)
    (spreads : (s t : SetNode) → P s → Contains ((nodes F).spreads s) t → P t × Contains ((nodes G).spreads s) t)
    (belows : (s : SetNode) (f : FieldNode) (t : SetNode) → P s → Contains (direct s) f → f.below ≡ Some t → P t) where
  -- the set below a field is such
  abbrev Q : FieldNode → Type 0
  Q f = (t : SetNode) → f.below ≡ Some t → P t

  fields_there : {s : SetNode} {f : FieldNode} → FieldsOf (nodes F) s f → P s → FieldsOf (nodes G) s f × Q f
  fields_there (here {s} {f} c) p = (here c, λ t e. belows s f t p c e)
  fields_there (spread {s} {t} {f} c a) p =
      let r = spreads s t p c in
      let k = fields_there a r.0 in
      (spread r.1 k.0, k.1)

  below_there : (f g h : FieldNode) → Q f → Q g → Below (nodes F) f g h → Below (nodes G) f g h × Q h
  below_there f g h qf qg b =
      let p : P b.0 = elim b.1 [ inl e ↦ qf b.0 e | inr e ↦ qg b.0 e ] in
      let r = fields_there b.2 p in
      ((b.0, b.1, r.0), r.1)

  module _ (sets : List SetNode) (all : (s : SetNode) → Contains sets s → P s) where
    reached_there : {f g : FieldNode} {m : Mode} → Reached (nodes F) (SeedsOf (nodes F) sets) f g m → Reached (nodes G) (SeedsOf (nodes G) sets) f g m × (Q f × Q g)
    reached_there (seed {f} {g} two b) =
        let p = all b.0 b.1 in
        let x = fields_there b.2 p in
        let y = fields_there b.3 p in
        (seed two (b.0, b.1, x.0, y.0), (x.1, y.1))
    reached_there (turn r) = let k = reached_there r in (turn k.0, (k.1.1, k.1.0))
    reached_there (step {f} {g} {h} {k} r fine is a b two) =
        let i = reached_there r in
        let x = below_there f g h i.1.0 i.1.1 a in
        let y = below_there f g k i.1.0 i.1.1 b in
        (step i.0 fine is x.0 y.0 two, (x.1, y.1))

    pub clash_there : (f g : FieldNode) (m : Mode) → IsClash (nodes F) (SeedsOf (nodes F) sets) f g m → IsClash (nodes G) (SeedsOf (nodes G) sets) f g m
    clash_there f g m c = ((reached_there c.0).0, c.1)

  module _ (s t : SetNode) (ps : P s) (pt : P t) where
    between_reached : {f g : FieldNode} {m : Mode} → Reached (nodes F) (SeedsBetween (nodes F) s t) f g m → Reached (nodes G) (SeedsBetween (nodes G) s t) f g m × (Q f × Q g)
    between_reached (seed {f} {g} two b) = (seed two b, (λ r e. belows s f r ps b.0 e, λ r e. belows t g r pt b.1 e))
    between_reached (turn r) = let k = between_reached r in (turn k.0, (k.1.1, k.1.0))
    between_reached (step {f} {g} {h} {k} r fine is a b two) =
        let i = between_reached r in
        let x = below_there f g h i.1.0 i.1.1 a in
        let y = below_there f g k i.1.0 i.1.1 b in
        (step i.0 fine is x.0 y.0 two, (x.1, y.1))

    pub between_there : (f g : FieldNode) (m : Mode) → IsClash (nodes F) (SeedsBetween (nodes F) s t) f g m → IsClash (nodes G) (SeedsBetween (nodes G) s t) f g m
    between_there f g m c = ((between_reached c.0).0, c.1)

-- ---- the sets that a definition leads to

module _ (v u : Facts) (d : Definition) (agree : Agree v u d) where
  -- of the definition, or of a fragment that it reaches
  data Leads : SetNode → Type 0 where
    of_own : {s : SetNode} → Contains (sets_in v d) s → Leads s
    of_member : {s : SetNode} (g : FragmentFact) → Reaches v d g → Contains (fragment_sets v g) s → Leads s

  asked : (s : SetNode) → Leads s → (n : List ℕ) → Contains (names_spread s) n → Reads v d (key.FragmentOf n)
  asked s (of_own c) n h = own (of_tree_asked v d.file d.tree s c n h)
  asked s (of_member g r c) n h = of_fragment r (of_fragment_asked v g.file g.fragment s c n h)

  reached : (s : SetNode) → Leads s → (n : List ℕ) → Contains (names_spread s) n → (g : FragmentFact) → v (key.FragmentOf n) ≡ fact.Fragment g → Reaches v d g
  reached s (of_own c) n h g e = by_definition (of_tree_asked v d.file d.tree s c n h) e
  reached s (of_member k r c) n h g e = by_fragment r (of_fragment_asked v k.file k.fragment s c n h) e

  member_same : (g : FragmentFact) → Reaches v d g → fragment_part u g.file g.fragment ≡ fragment_part v g.file g.fragment
  member_same g r = fragment_same v u g.file g.fragment (λ k h. agree k (of_fragment r h))

  sets_same : sets_in u d ≡ sets_in v d
  sets_same = ap (λ o. flat_map sets_of (list_of o)) (tree_same v u d.file d.tree (λ k h. agree k (own h)))

  -- the sets of a name
  same_by : (f : Fact) → ((g : FragmentFact) → f ≡ fact.Fragment g → Reaches v d g) → sets_by u f ≡ sets_by v f
  same_by fact.Absent r = refl
  same_by (fact.Kind x) r = refl
  same_by (fact.Field x) r = refl
  same_by (fact.Possible x) r = refl
  same_by (fact.Input x) r = refl
  same_by (fact.Enum x) r = refl
  same_by (fact.Directive x) r = refl
  same_by (fact.Root x) r = refl
  same_by (fact.Fragment g) r = ap (λ p. set_of p ∷ []) (member_same g (r g refl))

  leads_by : (f : Fact) (t : SetNode) → ((g : FragmentFact) → f ≡ fact.Fragment g → Reaches v d g) → Contains (sets_by v f) t → Leads t
  leads_by fact.Absent t r c = absurd (Contains-nil t c)
  leads_by (fact.Kind x) t r c = absurd (Contains-nil t c)
  leads_by (fact.Field x) t r c = absurd (Contains-nil t c)
  leads_by (fact.Possible x) t r c = absurd (Contains-nil t c)
  leads_by (fact.Input x) t r c = absurd (Contains-nil t c)
  leads_by (fact.Enum x) t r c = absurd (Contains-nil t c)
  leads_by (fact.Directive x) t r c = absurd (Contains-nil t c)
  leads_by (fact.Root x) t r c = absurd (Contains-nil t c)
  leads_by (fact.Fragment g) t r c = of_member g (r g refl) (Contains-append_right (fragment_part v g.file g.fragment).sets (fragment_set v g ∷ []) t c)

  names_same : (names : List (List ℕ)) → ((n : List ℕ) → Contains names n → sets_named u n ≡ sets_named v n) → flat_map (sets_named u) names ≡ flat_map (sets_named v) names
  names_same [] same = refl
  names_same (n ∷ names) same =
      ap (λ l. l ++ flat_map (sets_named u) names) (same n (Contains-here n names))
      ∙ ap (λ l. sets_named v n ++ l) (names_same names (λ m c. same m (Contains-there m n names c)))

  spreads_same : (s : SetNode) → Leads s → (nodes u).spreads s ≡ (nodes v).spreads s
  spreads_same s p = names_same (names_spread s) (λ n h.
      ap (sets_by u) (agree (key.FragmentOf n) (asked s p n h)) ∙ same_by (v (key.FragmentOf n)) (λ g e. reached s p n h g e))

  spreads_lead : (s t : SetNode) → Leads s → Contains ((nodes v).spreads s) t → Leads t
  spreads_lead s t p c =
      let r = Contains-flat_map_from (sets_named v) (names_spread s) t c in
      leads_by (v (key.FragmentOf r.0)) t (λ g e. reached s p r.0 r.1 g e) r.2

  -- the sets below fields
  tree_closed : (tr : Tree) (s : SetNode) → Contains (flat_map sets_of (list_of (tree_part v d.file tr))) s → (f : FieldNode) → Contains (direct s) f
      → (t : SetNode) → f.below ≡ Some t → Contains (flat_map sets_of (list_of (tree_part v d.file tr))) t
  tree_closed (tree.Operation o) s c f h t e =
      let p = operation_part v d.file o in
      subst (λ l. Contains l t) (sym (append_end (sets_of p))) (own_closed p (closed v d.file (root_parent v o.kind) o.selections) s (subst (λ l. Contains l s) (append_end (sets_of p)) c) f h t e)
  tree_closed (tree.Fragment g) s c f h t e =
      let p = fragment_part v d.file g in
      subst (λ l. Contains l t) (sym (append_end (sets_of p))) (own_closed p (closed v d.file (composite v (Some g.condition.text)) g.selections) s (subst (λ l. Contains l s) (append_end (sets_of p)) c) f h t e)
  tree_closed (tree.Schema x) s c f h t e = absurd (Contains-nil s c)
  tree_closed (tree.Type x) s c f h t e = absurd (Contains-nil s c)
  tree_closed (tree.Directive x) s c f h t e = absurd (Contains-nil s c)
  tree_closed (tree.SchemaExtension x) s c f h t e = absurd (Contains-nil s c)
  tree_closed (tree.TypeExtension x) s c f h t e = absurd (Contains-nil s c)

  below_leads : (s : SetNode) (f : FieldNode) (t : SetNode) → Leads s → Contains (direct s) f → f.below ≡ Some t → Leads t
  below_leads s f t (of_own c) h e = of_own (tree_closed d.tree s c f h t e)
  below_leads s f t (of_member g r c) h e = of_member g r (own_closed (fragment_part v g.file g.fragment) (closed v g.file (composite v (Some g.fragment.condition.text)) g.fragment.selections) s c f h t e)

  -- ---- faults

  there : (f g : FieldNode) (m : Mode) → IsClash (nodes v) (SeedsOf (nodes v) (sets_in v d)) f g m → IsClash (nodes u) (SeedsOf (nodes u) (sets_in u d)) f g m
  there f g m c = subst (λ l. IsClash (nodes u) (SeedsOf (nodes u) l) f g m) (sym sets_same)
      (clash_there v u Leads (λ s t p h. (spreads_lead s t p h, subst (λ l. Contains l t) (sym (spreads_same s p)) h)) below_leads (sets_in v d) (λ s h. of_own h) f g m c)

  back : (f g : FieldNode) (m : Mode) → IsClash (nodes u) (SeedsOf (nodes u) (sets_in u d)) f g m → IsClash (nodes v) (SeedsOf (nodes v) (sets_in v d)) f g m
  back f g m c = clash_there u v Leads
      (λ s t p h. let k = subst (λ l. Contains l t) (spreads_same s p) h in (spreads_lead s t p k, k)) below_leads (sets_in v d) (λ s h. of_own h) f g m
      (subst (λ l. IsClash (nodes u) (SeedsOf (nodes u) l) f g m) sets_same c)

  faults_there : (x : Fault) → IsMergeFault v d x → IsMergeFault u d x
  faults_there x (by_v05 (v05.differ {f = f} {g = g} {m = m} c bad)) = by_v05 (v05.differ {f = f} {g = g} {m = m} (there f g m c.0, c.1) bad)
  faults_there x (by_v06 (v06.differ {f = f} {g = g} {m = m} c bad)) = by_v06 (v06.differ {f = f} {g = g} {m = m} (there f g m c.0, c.1) bad)

  faults_back : (x : Fault) → IsMergeFault u d x → IsMergeFault v d x
  faults_back x (by_v05 (v05.differ {f = f} {g = g} {m = m} c bad)) = by_v05 (v05.differ {f = f} {g = g} {m = m} (back f g m c.0, c.1) bad)
  faults_back x (by_v06 (v06.differ {f = f} {g = g} {m = m} c bad)) = by_v06 (v06.differ {f = f} {g = g} {m = m} (back f g m c.0, c.1) bad)

  pub same_faults : (x : Fault) → IsMergeFault v d x ↔ IsMergeFault u d x
  same_faults x = (faults_there x, faults_back x)

-- ---- clashes between two fragments

module _ (v u : Facts) (g h : FragmentFact) (agree : (k : Key) → PairReads v g h k → u k ≡ v k) where
  of_first : Agree v u (definition_of g)
  of_first k r = agree k (inl (inr r))

  of_second : Agree v u (definition_of h)
  of_second k r = agree k (inr (inr r))

  -- one of the two leads to the set
  abbrev EitherLeads : SetNode → Type 0
  EitherLeads s = Leads v u (definition_of g) of_first s ⊎ Leads v u (definition_of h) of_second s

  own_set : (x : FragmentFact) → Contains (sets_in v (definition_of x)) (fragment_set v x)
  own_set x =
      let p = fragment_part v x.file x.fragment in
      Contains-append_left (sets_of p) [] (fragment_set v x) (Contains-append_right p.sets (fragment_set v x ∷ []) (fragment_set v x) (Contains-here (fragment_set v x) []))

  first_same : fragment_set u g ≡ fragment_set v g
  first_same = ap set_of (fragment_same v u g.file g.fragment (λ k r. of_first k (own (Contains-there k float_read (fragment_reads v g.fragment) r))))

  second_same : fragment_set u h ≡ fragment_set v h
  second_same = ap set_of (fragment_same v u h.file h.fragment (λ k r. of_second k (own (Contains-there k float_read (fragment_reads v h.fragment) r))))

  first_leads : EitherLeads (fragment_set v g)
  first_leads = inl (of_own (own_set g))

  second_leads : EitherLeads (fragment_set v h)
  second_leads = inr (of_own (own_set h))

  either_spreads : (s : SetNode) → EitherLeads s → (nodes u).spreads s ≡ (nodes v).spreads s
  either_spreads s p = elim p [
    | inl l ↦ spreads_same v u (definition_of g) of_first s l
    | inr l ↦ spreads_same v u (definition_of h) of_second s l
  ]

  either_leads : (s t : SetNode) → EitherLeads s → Contains ((nodes v).spreads s) t → EitherLeads t
  either_leads s t p c = elim p [
    | inl l ↦ inl (spreads_lead v u (definition_of g) of_first s t l c)
    | inr l ↦ inr (spreads_lead v u (definition_of h) of_second s t l c)
  ]

  either_below : (s : SetNode) (f : FieldNode) (t : SetNode) → EitherLeads s → Contains (direct s) f → f.below ≡ Some t → EitherLeads t
  either_below s f t p c e = elim p [
    | inl l ↦ inl (below_leads v u (definition_of g) of_first s f t l c e)
    | inr l ↦ inr (below_leads v u (definition_of h) of_second s f t l c e)
  ]

  two_there : (x y : FieldNode) (m : Mode) → IsClashBetween v g h x y m → IsClashBetween u g h x y m
  two_there x y m c = subst (λ s. IsClash (nodes u) (SeedsBetween (nodes u) s (fragment_set u h)) x y m) (sym first_same)
      (subst (λ t. IsClash (nodes u) (SeedsBetween (nodes u) (fragment_set v g) t) x y m) (sym second_same)
      (between_there v u EitherLeads (λ s t p k. (either_leads s t p k, subst (λ l. Contains l t) (sym (either_spreads s p)) k)) either_below
      (fragment_set v g) (fragment_set v h) first_leads second_leads x y m c))

  two_back : (x y : FieldNode) (m : Mode) → IsClashBetween u g h x y m → IsClashBetween v g h x y m
  two_back x y m c = between_there u v EitherLeads
      (λ s t p k. let j = subst (λ l. Contains l t) (either_spreads s p) k in (either_leads s t p j, j)) either_below
      (fragment_set v g) (fragment_set v h) first_leads second_leads x y m
      (subst (λ s. IsClash (nodes u) (SeedsBetween (nodes u) s (fragment_set v h)) x y m) first_same
      (subst (λ t. IsClash (nodes u) (SeedsBetween (nodes u) (fragment_set u g) t) x y m) second_same c))

  pub bad_there : (p : BadPair) → IsBadBetween v g h p → IsBadBetween u g h p
  bad_there p (between.clash {x = x} {y = y} {m = m} c l) = between.clash {x = x} {y = y} {m = m} (two_there x y m c) l

  pub bad_back : (p : BadPair) → IsBadBetween u g h p → IsBadBetween v g h p
  bad_back p (between.clash {x = x} {y = y} {m = m} c l) = between.clash {x = x} {y = y} {m = m} (two_back x y m c) l
