-- The names that a set spreads are among what its definition asks.
use Rattle.std.specs.Prelude.{◌≡◌, ℕ, List, [], ◌∷◌, ◌++◌, flat_map, Bool, true, false, Option, Some, Contains}
use Rattle.std.proofs.Common.{sym, subst, inl, inr}
use Rattle.std.proofs.lemmas.List.Elements.{Contains-append_left, Contains-append_right, Contains-append_cases}
use Rattle.gql_ast.specs.declared.definition.Tree.{Tree}
use Rattle.gql_ast.specs.declared.definition.Tree.TheVariants as tree
use Rattle.gql_ast.specs.declared.executable.Field.{Field}
use Rattle.gql_ast.specs.declared.executable.Fragment.{Fragment}
use Rattle.gql_ast.specs.declared.executable.InlineFragment.{InlineFragment}
use Rattle.gql_ast.specs.declared.executable.Operation.{Operation}
use Rattle.gql_ast.specs.declared.executable.Selection.{Selection}
use Rattle.gql_ast.specs.declared.executable.Selection.TheVariants as s
use Rattle.gql_ast.specs.declared.executable.Spread.{Spread}
use Rattle.gql_facts.proofs.Parts.{scan_cons, scan_field, scan_inline, scan_spread}
use Rattle.gql_facts.proofs.Trees.{Each, by_set}
use Rattle.gql_facts.specs.Floats.{float_read}
use Rattle.gql_facts.specs.ListMembers.{Contains-cases, Contains-here, Contains-nil, Contains-there}
use Rattle.gql_facts.specs.Nodes.{composite, has_any, parent_below, parent_within}
use Rattle.gql_facts.specs.OwnReads.{composite_reads, condition_reads, directive_reads, field_reads, field_scan, fragment_reads, inline_scan, operation_reads, root_parent, selected_root, selection_scan, set_scan, spread_scan, tree_reads, variable_reads}
use Rattle.gql_facts.specs.Worlds.{Facts}
use Rattle.gql_facts.specs.declared.key.Key.{Key}
use Rattle.gql_facts.specs.declared.key.Key.TheVariants as key
use Rattle.gql_merge.specs.FieldNodes.{FieldInfo, SetNode, names_spread}
use Rattle.gql_merge.specs.FieldSets.{Part, known_info, list_of, part_field, part_in, part_inline, part_of_field, part_of_spread, part_spread, part_within, set_of, written_field}
use Rattle.gql_merge.specs.MergedNodes.{fragment_part, operation_part, sets_of, tree_part}

-- what a part spreads, itself and in its sets, is among these keys
pub record AreAsked (keys : List Key) (p : Part) : Type 0 where
  pub names : (n : List ℕ) → Contains p.names n → Contains keys (key.FragmentOf n)
  pub sets : (t : SetNode) → Contains p.sets t → (n : List ℕ) → Contains (names_spread t) n → Contains keys (key.FragmentOf n)

module _ (F : Facts) (file : List ℕ) where
  abbrev Asks : Selection → Type 0
  Asks x = (parent : Option (List ℕ)) → AreAsked (selection_scan F parent x) (part_in F file x parent)

  set_asked : (xs : List Selection) (parent : Option (List ℕ)) → Each Asks xs → AreAsked (set_scan F parent xs) (part_within F file parent xs)
  set_asked [] parent each = record {
    names = λ n c. absurd (Contains-nil n c);
    sets = λ t c. absurd (Contains-nil t c);
  }
  set_asked (x ∷ xs) parent each =
      let p = part_in F file x parent in
      let rest = part_within F file parent xs in
      let first = each.0 parent in
      let after = set_asked xs parent each.1 in
      let left = selection_scan F parent x in
      let right = set_scan F parent xs in
      let there : left ++ right ≡ set_scan F parent (x ∷ xs) = sym (scan_cons F parent x xs) in
      record {
        names = λ n c. subst (λ l. Contains l (key.FragmentOf n)) there (elim (Contains-append_cases p.names rest.names n c) [
          | inl a ↦ Contains-append_left left right (key.FragmentOf n) (first.names n a)
          | inr b ↦ Contains-append_right left right (key.FragmentOf n) (after.names n b)
        ]);
        sets = λ t c n h. subst (λ l. Contains l (key.FragmentOf n)) there (elim (Contains-append_cases p.sets rest.sets t c) [
          | inl a ↦ Contains-append_left left right (key.FragmentOf n) (first.sets t a n h)
          | inr b ↦ Contains-append_right left right (key.FragmentOf n) (after.sets t b n h)
        ]);
      }

  -- of a set of its own
  own_asked : (keys : List Key) (p : Part) → AreAsked keys p → (t : SetNode) → Contains (sets_of p) t → (n : List ℕ) → Contains (names_spread t) n → Contains keys (key.FragmentOf n)
  own_asked keys p a t c n h = elim (Contains-append_cases p.sets (set_of p ∷ []) t c) [
    | inl i ↦ a.sets t i n h
    | inr o ↦ elim (Contains-cases t (set_of p) [] o) [
      | inl e ↦ a.names n (subst (λ u. Contains (names_spread u) n) e h)
      | inr x ↦ absurd (Contains-nil t x)
    ]
  ]

  field_part_asked : (keys : List Key) (known : Option FieldInfo) (selects : Bool) (p : Part) → AreAsked keys p → AreAsked keys (part_of_field known selects p)
  field_part_asked keys known true p a = record {
    names = λ n c. absurd (Contains-nil n c);
    sets = own_asked keys p a;
  }
  field_part_asked keys known false p a = record {
    names = λ n c. absurd (Contains-nil n c);
    sets = λ t c. elim (Contains-append_cases p.sets [] t c) [
      | inl i ↦ a.sets t i
      | inr o ↦ absurd (Contains-nil t o)
    ];
  }

  wider : (keys more : List Key) (p : Part) → ((k : Key) → Contains keys k → Contains more k) → AreAsked keys p → AreAsked more p
  wider keys more p into a = record {
    names = λ n c. into (key.FragmentOf n) (a.names n c);
    sets = λ t c n h. into (key.FragmentOf n) (a.sets t c n h);
  }

  field_asked : (f : Field) → Each Asks f.selections → Asks (s.Field f)
  field_asked f each parent =
      let below = parent_below F parent f.name.text in
      let p = part_within F file below f.selections in
      let reads = field_reads F parent f.name.text in
      let directives = directive_reads f.directives in
      let scan = set_scan F below f.selections in
      let a = field_part_asked scan (known_info F file parent (written_field f)) (has_any f.selections) p (set_asked f.selections below each) in
      subst (λ q. AreAsked (selection_scan F parent (s.Field f)) q) (sym (part_field F file f parent))
      (subst (λ l. AreAsked l (part_of_field (known_info F file parent (written_field f)) (has_any f.selections) p)) (sym (scan_field F parent f))
      (wider scan (field_scan F parent f) (part_of_field (known_info F file parent (written_field f)) (has_any f.selections) p)
      (λ k h. Contains-append_right reads (directives ++ scan) k (Contains-append_right directives scan k h)) a))

  inline_asked : (i : InlineFragment) → Each Asks i.selections → Asks (s.InlineFragment i)
  inline_asked i each parent =
      let within = parent_within F parent i.condition in
      let p = part_within F file within i.selections in
      let reads = condition_reads i.condition in
      let directives = directive_reads i.directives in
      let scan = set_scan F within i.selections in
      subst (λ q. AreAsked (selection_scan F parent (s.InlineFragment i)) q) (sym (part_inline F file i parent))
      (subst (λ l. AreAsked l p) (sym (scan_inline F parent i))
      (wider scan (inline_scan F parent i) p
      (λ k h. Contains-append_right reads (directives ++ scan) k (Contains-append_right directives scan k h)) (set_asked i.selections within each)))

  spread_asked : (x : Spread) → Asks (s.Spread x)
  spread_asked x parent =
      subst (λ q. AreAsked (selection_scan F parent (s.Spread x)) q) (sym (part_spread F file x parent))
      (subst (λ l. AreAsked l (part_of_spread x.name.text)) (sym (scan_spread F parent x)) (record {
        names = λ n c. elim (Contains-cases n x.name.text [] c) [
          | inl e ↦ subst (λ m. Contains (spread_scan x) (key.FragmentOf m)) (sym e) (Contains-here (key.FragmentOf x.name.text) (directive_reads x.directives))
          | inr o ↦ absurd (Contains-nil n o)
        ];
        sets = λ t c. absurd (Contains-nil t c);
      }))

  pub all_asked : (parent : Option (List ℕ)) (xs : List Selection) → AreAsked (set_scan F parent xs) (part_within F file parent xs)
  all_asked parent xs = set_asked xs parent (by_set Asks field_asked spread_asked inline_asked xs)

  -- ---- definitions

  operation_asked : (o : Operation) → AreAsked (operation_reads F o) (operation_part F file o)
  operation_asked o =
      let r = composite_reads (selected_root F o.kind) in
      let ds = directive_reads o.directives in
      let vars = flat_map variable_reads o.variables in
      let scan = set_scan F (root_parent F o.kind) o.selections in
      wider scan (operation_reads F o) (operation_part F file o)
      (λ k h. Contains-there k (key.RootOf o.kind) (r ++ (ds ++ (vars ++ scan))) (Contains-append_right r (ds ++ (vars ++ scan)) k (Contains-append_right ds (vars ++ scan) k (Contains-append_right vars scan k h))))
      (all_asked (root_parent F o.kind) o.selections)

  fragment_asked : (f : Fragment) → AreAsked (fragment_reads F f) (fragment_part F file f)
  fragment_asked f =
      let r = composite_reads (Some f.condition.text) in
      let ds = directive_reads f.directives in
      let scan = set_scan F (composite F (Some f.condition.text)) f.selections in
      wider scan (fragment_reads F f) (fragment_part F file f)
      (λ k h. Contains-append_right r (ds ++ scan) k (Contains-append_right ds scan k h))
      (all_asked (composite F (Some f.condition.text)) f.selections)

  pub of_fragment_asked : (f : Fragment) (t : SetNode) → Contains (sets_of (fragment_part F file f)) t → (n : List ℕ) → Contains (names_spread t) n → Contains (fragment_reads F f) (key.FragmentOf n)
  of_fragment_asked f = own_asked (fragment_reads F f) (fragment_part F file f) (fragment_asked f)

  ends : {A : Type 0} (a : List A) (x : A) → Contains (a ++ []) x → Contains a x
  ends a x c = elim (Contains-append_cases a [] x c) [
    | inl i ↦ i
    | inr o ↦ absurd (Contains-nil x o)
  ]

  pub of_tree_asked : (tr : Tree) (t : SetNode) → Contains (flat_map sets_of (list_of (tree_part F file tr))) t → (n : List ℕ) → Contains (names_spread t) n → Contains (tree_reads F tr) (key.FragmentOf n)
  of_tree_asked (tree.Operation o) t c = λ n h. Contains-there (key.FragmentOf n) float_read (operation_reads F o)
      (own_asked (operation_reads F o) (operation_part F file o) (operation_asked o) t (ends (sets_of (operation_part F file o)) t c) n h)
  of_tree_asked (tree.Fragment f) t c = λ n h. Contains-there (key.FragmentOf n) float_read (fragment_reads F f)
      (of_fragment_asked f t (ends (sets_of (fragment_part F file f)) t c) n h)
  of_tree_asked (tree.Schema d) t c = absurd (Contains-nil t c)
  of_tree_asked (tree.Type d) t c = absurd (Contains-nil t c)
  of_tree_asked (tree.Directive d) t c = absurd (Contains-nil t c)
  of_tree_asked (tree.SchemaExtension d) t c = absurd (Contains-nil t c)
  of_tree_asked (tree.TypeExtension d) t c = absurd (Contains-nil t c)
