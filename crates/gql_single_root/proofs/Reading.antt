-- What the rule asks is among what a definition reads: the fragments that are spread at its root are
-- reached, and facts that agree on what is read give the same root fields.
use Rattle.std.specs.Prelude.{◌≡◌, ◌↔◌, ◌++◌, ℕ, List, [], ◌∷◌, flat_map, Option, Some, None, Contains, refl}
use Rattle.std.proofs.Common.{ap, sym, ◌∙◌, subst, inl, inr}
use Rattle.std.proofs.lemmas.List.Elements.{Contains-append_left, Contains-append_right}
use Rattle.gql_ast.specs.declared.definition.Definition.{Definition}
use Rattle.gql_ast.specs.declared.definition.Tree.TheVariants as tree
use Rattle.gql_ast.specs.declared.executable.Field.{Field}
use Rattle.gql_ast.specs.declared.executable.Fragment.{Fragment}
use Rattle.gql_ast.specs.declared.executable.InlineFragment.{InlineFragment}
use Rattle.gql_ast.specs.declared.executable.Operation.{Operation}
use Rattle.gql_ast.specs.declared.executable.OperationKind.TheVariants as operation
use Rattle.gql_ast.specs.declared.executable.Selection.{Selection}
use Rattle.gql_ast.specs.declared.executable.Selection.TheVariants as s
use Rattle.gql_ast.specs.declared.executable.Spread.{Spread}
use Rattle.gql_ast.specs.declared.text.Name.{Name}
use Rattle.gql_facts.proofs.Parts.{scan_cons, scan_inline, scan_spread}
use Rattle.gql_facts.specs.Floats.{float_read}
use Rattle.gql_facts.specs.ListMembers.{Contains-nil, Contains-here, Contains-there, Contains-cases}
use Rattle.gql_facts.specs.Members.{Lists}
use Rattle.gql_facts.specs.Nodes.{composite, parent_within}
use Rattle.gql_facts.specs.OwnReads.{own_reads, operation_reads, fragment_reads, composite_reads, condition_reads, directive_reads, variable_reads, set_scan, selection_scan, inline_scan, root_parent, selected_root}
use Rattle.gql_facts.specs.Reads.{Reads, own as own_read, of_fragment, Reaches, by_definition, by_fragment, Agree}
use Rattle.gql_facts.specs.Worlds.{Facts, IsWorld}
use Rattle.gql_facts.specs.declared.fact.Fact.TheVariants as fact
use Rattle.gql_facts.specs.declared.fact.FragmentFact.{FragmentFact}
use Rattle.gql_facts.specs.declared.key.Key.{Key}
use Rattle.gql_facts.specs.declared.key.Key.TheVariants as key
use Rattle.gql_single_root.specs.RootSelections.{IsAtRootOf, own, inside}
use Rattle.gql_single_root.specs.V30SingleRootField.{AtRoot, here, inside as within_inline, spread as through, IsFault, several, introspection, none, IsSingleRootFault, of_subscription, applies, is_possible, is_among, names_in}
use Rattle.gql_single_root.specs.Walks as walks
use Rattle.gql_single_root.specs.Walks.{HasAll, Spreads, fragment_name}
use Rattle.gql_single_root.specs.declared.fault.RootFault.{RootFault}

-- ---- what a selection set reads

module _ (F : Facts) where
  -- what a selection of the set reads
  in_set : (p : Option (List ℕ)) (set : List Selection) (y : Selection) (k : Key) → Contains set y → Contains (selection_scan F p y) k → Contains (set_scan F p set) k
  in_set p [] y k c h = absurd (Contains-nil y c)
  in_set p (z ∷ zs) y k c h = subst (λ l. Contains l k) (sym (scan_cons F p z zs)) (elim (Contains-cases y z zs c) [
    | inl e ↦ Contains-append_left (selection_scan F p z) (set_scan F p zs) k (subst (λ w. Contains (selection_scan F p w) k) e h)
    | inr t ↦ Contains-append_right (selection_scan F p z) (set_scan F p zs) k (in_set p zs y k t h)
  ])

  -- what an inline fragment of the set reads: its condition, and within it
  in_inline : (p : Option (List ℕ)) (set : List Selection) (i : InlineFragment) (k : Key) → Contains set (s.InlineFragment i) → Contains (inline_scan F p i) k → Contains (set_scan F p set) k
  in_inline p set i k c h = in_set p set (s.InlineFragment i) k c (subst (λ l. Contains l k) (sym (scan_inline F p i)) h)

  of_condition : (p : Option (List ℕ)) (set : List Selection) (i : InlineFragment) (k : Key) → Contains set (s.InlineFragment i) → Contains (condition_reads i.condition) k → Contains (set_scan F p set) k
  of_condition p set i k c h =
      in_inline p set i k c (Contains-append_left (condition_reads i.condition) (directive_reads i.directives ++ set_scan F (parent_within F p i.condition) i.selections) k h)

  of_inline : (p : Option (List ℕ)) (set : List Selection) (i : InlineFragment) (k : Key) → Contains set (s.InlineFragment i)
      → Contains (set_scan F (parent_within F p i.condition) i.selections) k → Contains (set_scan F p set) k
  of_inline p set i k c h =
      in_inline p set i k c (Contains-append_right (condition_reads i.condition) (directive_reads i.directives ++ set_scan F (parent_within F p i.condition) i.selections) k
      (Contains-append_right (directive_reads i.directives) (set_scan F (parent_within F p i.condition) i.selections) k h))

  -- the fragment that a spread of the set names
  of_spread : (p : Option (List ℕ)) (set : List Selection) (x : Spread) → Contains set (s.Spread x) → Contains (set_scan F p set) (key.FragmentOf x.name.text)
  of_spread p set x c =
      in_set p set (s.Spread x) (key.FragmentOf x.name.text) c
      (subst (λ l. Contains l (key.FragmentOf x.name.text)) (sym (scan_spread F p x)) (Contains-here (key.FragmentOf x.name.text) (directive_reads x.directives)))

  spread_asked : (root : List ℕ) (p : Option (List ℕ)) (set : List Selection) (y : Selection) (x : Spread) → y ≡ s.Spread x → IsAtRootOf F root set y
      → Contains (set_scan F p set) (key.FragmentOf x.name.text)
  spread_asked root p set y x is (own c k) = of_spread p set x (subst (Contains set) is c)
  spread_asked root p set y x is (inside {i = i} c k a h) =
      of_inline p set i (key.FragmentOf x.name.text) c (spread_asked root (parent_within F p i.condition) i.selections y x is h)

  -- ---- definitions

  operation_asked : (o : Operation) (k : Key) → Contains (set_scan F (root_parent F o.kind) o.selections) k → Contains (operation_reads F o) k
  operation_asked o k h =
      let r = composite_reads (selected_root F o.kind) in
      let ds = directive_reads o.directives in
      let vars = flat_map variable_reads o.variables in
      let scan = set_scan F (root_parent F o.kind) o.selections in
      Contains-there k (key.RootOf o.kind) (r ++ (ds ++ (vars ++ scan)))
      (Contains-append_right r (ds ++ (vars ++ scan)) k (Contains-append_right ds (vars ++ scan) k (Contains-append_right vars scan k h)))

  fragment_asked : (f : Fragment) (k : Key) → Contains (set_scan F (composite F (Some f.condition.text)) f.selections) k → Contains (fragment_reads F f) k
  fragment_asked f k h =
      let c = composite_reads (Some f.condition.text) in
      let ds = directive_reads f.directives in
      let scan = set_scan F (composite F (Some f.condition.text)) f.selections in
      Contains-append_right c (ds ++ scan) k (Contains-append_right ds scan k h)

  -- the possible types of a fragment's condition
  condition_asked : (f : Fragment) → Contains (fragment_reads F f) (key.PossibleOf f.condition.text)
  condition_asked f =
      let c = f.condition.text in
      let k = key.PossibleOf c in
      Contains-append_left (composite_reads (Some c)) (directive_reads f.directives ++ set_scan F (composite F (Some c)) f.selections) k
      (Contains-there k (key.KindOf c) (key.PossibleOf c ∷ []) (Contains-here k []))

  module _ (d : Definition) (o : Operation) (is : d.tree ≡ tree.Operation o) where
    own_asked : (k : Key) → Contains (operation_reads F o) k → Contains (own_reads F d) k
    own_asked k h = subst (λ t. Contains (own_reads F (record { file = d.file; tree = t })) k) (sym is) (Contains-there k float_read (operation_reads F o) h)

    set_asked : (k : Key) → Contains (set_scan F (root_parent F o.kind) o.selections) k → Contains (own_reads F d) k
    set_asked k h = own_asked k (operation_asked o k h)

    spreads_reach : (root : List ℕ) (g : FragmentFact) → Spreads F root o.selections g → Reaches F d g
    spreads_reach root g (walks.by_set {x = x} h e) =
        by_definition (set_asked (key.FragmentOf x.name.text) (spread_asked root (root_parent F o.kind) o.selections (s.Spread x) x refl h)) e
    spreads_reach root g (walks.by_fragment {h = h} {x = x} sp i e) =
        by_fragment (spreads_reach root h sp)
        (fragment_asked h.fragment (key.FragmentOf x.name.text)
        (spread_asked root (composite F (Some h.fragment.condition.text)) h.fragment.selections (s.Spread x) x refl i.1)) e

    reached_name : (names : List (List ℕ)) → IsWorld F names → (g : FragmentFact) → Reaches F d g → F (key.FragmentOf (fragment_name g)) ≡ fact.Fragment g
    reached_name names world g (by_definition {n} c e) = subst (λ m. F (key.FragmentOf m) ≡ fact.Fragment g) (sym (world.named n g e)) e
    reached_name names world g (by_fragment {n} r c e) = subst (λ m. F (key.FragmentOf m) ≡ fact.Fragment g) (sym (world.named n g e)) e

    -- the fragments that the definition reaches are enough
    pub has_all : (names : List (List ℕ)) (root : List ℕ) (members : List FragmentFact) → IsWorld F names → Lists members (Reaches F d) → HasAll F root o.selections members
    has_all names root members world lists = record {
      spread = λ g sp. lists.complete g (spreads_reach root g sp);
      own = λ g c. reached_name names world g (lists.sound g c);
      named = λ n g e. world.named n g e;
    }

-- ---- facts that agree

module _ (v : Facts) (d : Definition) where
  -- what the set reads is read, and what it spreads is reached
  record Within (p : Option (List ℕ)) (set : List Selection) : Type 0 where
    reads : (k : Key) → Contains (set_scan v p set) k → Reads v d k
    reach : (n : List ℕ) (g : FragmentFact) → Contains (set_scan v p set) (key.FragmentOf n) → v (key.FragmentOf n) ≡ fact.Fragment g → Reaches v d g

  within_part : (p : Option (List ℕ)) (set : List Selection) (i : InlineFragment) → Contains set (s.InlineFragment i) → Within p set → Within (parent_within v p i.condition) i.selections
  within_part p set i c w = record {
    reads = λ k h. w.reads k (of_inline v p set i k c h);
    reach = λ n g h e. w.reach n g (of_inline v p set i (key.FragmentOf n) c h) e;
  }

  within_fragment : (g : FragmentFact) → Reaches v d g → Within (composite v (Some g.fragment.condition.text)) g.fragment.selections
  within_fragment g r = record {
    reads = λ k h. of_fragment r (fragment_asked v g.fragment k h);
    reach = λ n h c e. by_fragment r (fragment_asked v g.fragment (key.FragmentOf n) c) e;
  }

  module _ (H K : Facts) (left : (k : Key) → Reads v d k → H k ≡ v k) (right : (k : Key) → Reads v d k → K k ≡ v k) (root : List ℕ) where
    both_same : (k : Key) → Reads v d k → H k ≡ K k
    both_same k r = left k r ∙ sym (right k r)

    possible_same : (c : List ℕ) → Reads v d (key.PossibleOf c) → is_possible H root c ≡ is_possible K root c
    possible_same c r = ap (λ f. is_among (names_in f) root) (both_same (key.PossibleOf c) r)

    applies_same : (c : Option Name) → ((k : Key) → Contains (condition_reads c) k → Reads v d k) → applies H root c ≡ applies K root c
    applies_same None r = refl
    applies_same (Some c) r =
        possible_same c.text (r (key.PossibleOf c.text) (Contains-there (key.PossibleOf c.text) (key.KindOf c.text) (key.PossibleOf c.text ∷ []) (Contains-here (key.PossibleOf c.text) [])))

    across : (file at : List ℕ) (set : List Selection) (f : Field) (p : Option (List ℕ)) → Within p set → AtRoot H root file set at f → AtRoot K root file set at f
    across file at set f p w (here c k) = here c k
    across file at set f p w (within_inline {i = i} c k a r) =
        within_inline c k (sym (applies_same i.condition (λ q h. w.reads q (of_condition v p set i q c h))) ∙ a)
        (across file at i.selections f (parent_within v p i.condition) (within_part p set i c w) r)
    across file at set f p w (through {x = x} {g = g} c k e a r) =
        let n = x.name.text in
        let asked : Contains (set_scan v p set) (key.FragmentOf n) = of_spread v p set x c in
        let reached : Reaches v d g = w.reach n g asked (sym (left (key.FragmentOf n) (w.reads (key.FragmentOf n) asked)) ∙ e) in
        through c k (sym (both_same (key.FragmentOf n) (w.reads (key.FragmentOf n) asked)) ∙ e)
        (sym (possible_same g.fragment.condition.text (of_fragment reached (condition_asked v g.fragment))) ∙ a)
        (across g.file at g.fragment.selections f (composite v (Some g.fragment.condition.text)) (within_fragment g reached) r)

module _ (v u : Facts) (d : Definition) (agree : Agree v u d) where
  module _ (o : Operation) (is : d.tree ≡ tree.Operation o) (root : List ℕ) where
    whole : Within v d (root_parent v o.kind) o.selections
    whole = record {
      reads = λ k h. own_read (set_asked v d o is k h);
      reach = λ n g h e. by_definition (set_asked v d o is (key.FragmentOf n) h) e;
    }

    there : (at : List ℕ) (f : Field) → AtRoot v root d.file o.selections at f → AtRoot u root d.file o.selections at f
    there at f r = across v d v u (λ k q. refl) agree root d.file at o.selections f (root_parent v o.kind) whole r

    back : (at : List ℕ) (f : Field) → AtRoot u root d.file o.selections at f → AtRoot v root d.file o.selections at f
    back at f r = across v d u v agree (λ k q. refl) root d.file at o.selections f (root_parent v o.kind) whole r

    fault_there : (x : RootFault) → IsFault v root d.file o x → IsFault u root d.file o x
    fault_there x (several {at = at} {other = other} {f = f} {g = g} a b apart) = several (there at f a) (there other g b) apart
    fault_there x (introspection {at = at} {f = f} a i) = introspection (there at f a) i
    fault_there x (none absent) = none (λ at f r. absent at f (back at f r))

    fault_back : (x : RootFault) → IsFault u root d.file o x → IsFault v root d.file o x
    fault_back x (several {at = at} {other = other} {f = f} {g = g} a b apart) = several (back at f a) (back other g b) apart
    fault_back x (introspection {at = at} {f = f} a i) = introspection (back at f a) i
    fault_back x (none absent) = none (λ at f r. absent at f (there at f r))

    -- the root is read
    root_same : o.kind ≡ operation.Subscription → u (key.RootOf operation.Subscription) ≡ v (key.RootOf operation.Subscription)
    root_same kind = agree (key.RootOf operation.Subscription) (own_read (own_asked v d o is (key.RootOf operation.Subscription)
        (subst (λ k. Contains (operation_reads v o) (key.RootOf k)) kind (Contains-here (key.RootOf o.kind) _))))

  pub same_faults : (x : RootFault) → IsSingleRootFault v d x ↔ IsSingleRootFault u d x
  same_faults x = (λ h. to h, λ h. from h) where
    to : IsSingleRootFault v d x → IsSingleRootFault u d x
    to (of_subscription {o = o} {root = root} is kind known h) =
        of_subscription is kind (root_same o is root kind ∙ known) (fault_there o is root x h)

    from : IsSingleRootFault u d x → IsSingleRootFault v d x
    from (of_subscription {o = o} {root = root} is kind known h) =
        of_subscription is kind (sym (root_same o is root kind) ∙ known) (fault_back o is root x h)
