-- Facts that agree on what a definition reads give it the same nodes, the same reads and the same
-- reach.
use Rattle.std.specs.Prelude.{◌≡◌, ℕ, List, [], ◌∷◌, ◌++◌, flat_map, refl, Option, Some, None, Contains, if◌then◌else◌}
use Rattle.std.proofs.Common.{ap, sym, ◌∙◌, subst}
use Rattle.std.proofs.lemmas.List.Elements.{Contains-append_left, Contains-append_right}
use Rattle.gql_ast.specs.declared.definition.Definition.{Definition}
use Rattle.gql_ast.specs.declared.definition.Tree.{Tree}
use Rattle.gql_ast.specs.declared.definition.Tree.TheVariants as tree
use Rattle.gql_ast.specs.declared.text.Name.{Name}
use Rattle.gql_ast.specs.declared.executable.Selection.{Selection}
use Rattle.gql_ast.specs.declared.executable.Field.{Field}
use Rattle.gql_ast.specs.declared.executable.InlineFragment.{InlineFragment}
use Rattle.gql_ast.specs.declared.executable.Spread.{Spread}
use Rattle.gql_ast.specs.declared.executable.Fragment.{Fragment}
use Rattle.gql_ast.specs.declared.executable.Operation.{Operation}
use Rattle.gql_ast.specs.declared.executable.Selection.TheVariants as s
use Rattle.gql_facts.specs.declared.fact.FragmentFact.{FragmentFact}
use Rattle.gql_facts.specs.declared.key.Key.{Key}
use Rattle.gql_facts.specs.declared.key.Key.TheVariants as key
use Rattle.gql_facts.specs.Floats.{float_read}
use Rattle.gql_facts.specs.Worlds.{Facts}
use Rattle.gql_facts.specs.Nodes.{field, inline, nodes, nodes_in, field_node, inline_node, composite, field_type, field_type_in, is_composite_fact, parent_below, parent_within, nodes_field, nodes_spread, nodes_inline}
use Rattle.gql_facts.specs.OwnReads.{own_reads, executable_reads, tree_reads, operation_reads, fragment_reads, operation_nodes, fragment_nodes, composite_reads, field_reads, condition_reads, directive_reads, variable_reads, set_scan, selection_scan, field_scan, inline_scan, selected_root, selected_by, root_parent}
use Rattle.gql_facts.specs.Reads.{Reads, own, of_fragment, of_type, Reaches, by_definition, by_fragment, types_in, Agree}
use Rattle.gql_facts.specs.ListMembers.{Contains-here, Contains-there}
use Rattle.gql_facts.proofs.Trees.{Each, by_set}
use Rattle.gql_facts.proofs.Parts.{scan_cons, scan_field, scan_inline, scan_spread}

-- ---- own reads

-- u answers as v does to these keys
abbrev pub AgreeAt : Facts → Facts → List Key → Type 0
AgreeAt v u ks = (k : Key) → Contains ks k → u k ≡ v k

module _ (v u : Facts) where
  -- of two lists
  first : (a b : List Key) → AgreeAt v u (a ++ b) → AgreeAt v u a
  first a b agree k h = agree k (Contains-append_left a b k h)

  second : (a b : List Key) → AgreeAt v u (a ++ b) → AgreeAt v u b
  second a b agree k h = agree k (Contains-append_right a b k h)

  composite_same : (o : Option (List ℕ)) → AgreeAt v u (composite_reads o) → composite u o ≡ composite v o
  composite_same None agree = refl
  composite_same (Some t) agree = ap (λ f. if is_composite_fact f then Some t else None) (agree (key.KindOf t) (Contains-here (key.KindOf t) (key.PossibleOf t ∷ [])))

  type_same : (p : Option (List ℕ)) (n : List ℕ) → AgreeAt v u (field_reads v p n) → field_type u p n ≡ field_type v p n
  type_same None n agree = refl
  type_same (Some t) n agree = ap field_type_in (agree (key.FieldOf t n) (Contains-here (key.FieldOf t n) (composite_reads (field_type v (Some t) n))))

  field_same : (p : Option (List ℕ)) (n : List ℕ) → AgreeAt v u (field_reads v p n) → field_reads u p n ≡ field_reads v p n
  field_same None n agree = refl
  field_same (Some t) n agree = ap (λ o. key.FieldOf t n ∷ composite_reads o) (type_same (Some t) n agree)

  below_same : (p : Option (List ℕ)) (n : List ℕ) → AgreeAt v u (field_reads v p n) → parent_below u p n ≡ parent_below v p n
  below_same None n agree = refl
  below_same (Some t) n agree = ap (composite u) (type_same (Some t) n agree)
      ∙ composite_same (field_type v (Some t) n) (λ k h. agree k (Contains-there k (key.FieldOf t n) (composite_reads (field_type v (Some t) n)) h))

  within_same : (p : Option (List ℕ)) (c : Option Name) → AgreeAt v u (condition_reads c) → parent_within u p c ≡ parent_within v p c
  within_same p None agree = refl
  within_same p (Some c) agree = composite_same (Some c.text) agree

  -- a selection has the same nodes and asks the same
  pub record Same (p : Option (List ℕ)) (x : Selection) : Type 0 where
    pub nodes : nodes_in u x p ≡ nodes_in v x p
    pub scan : selection_scan u p x ≡ selection_scan v p x

  pub record SameSet (p : Option (List ℕ)) (xs : List Selection) : Type 0 where
    pub nodes : nodes u p xs ≡ nodes v p xs
    pub scan : set_scan u p xs ≡ set_scan v p xs

  abbrev Stays : Selection → Type 0
  Stays x = (p : Option (List ℕ)) → AgreeAt v u (selection_scan v p x) → Same p x

  set_stays : (xs : List Selection) (p : Option (List ℕ)) → Each Stays xs → AgreeAt v u (set_scan v p xs) → SameSet p xs
  set_stays [] p each agree = record { nodes = refl; scan = refl }
  set_stays (x ∷ xs) p each agree =
      let parts : AgreeAt v u (selection_scan v p x ++ set_scan v p xs) = subst (AgreeAt v u) (scan_cons v p x xs) agree in
      let head = each.0 p (first (selection_scan v p x) (set_scan v p xs) parts) in
      let tail = set_stays xs p each.1 (second (selection_scan v p x) (set_scan v p xs) parts) in
      record {
        nodes = ap (λ l. l ++ nodes u p xs) head.nodes ∙ ap (λ l. nodes_in v x p ++ l) tail.nodes;
        scan = scan_cons u p x xs ∙ ap (λ l. l ++ set_scan u p xs) head.scan ∙ ap (λ l. selection_scan v p x ++ l) tail.scan ∙ sym (scan_cons v p x xs);
      }

  field_stays : (f : Field) → Each Stays f.selections → Stays (s.Field f)
  field_stays f each p agree =
      let n = f.name.text in
      let parts : AgreeAt v u (field_scan v p f) = subst (AgreeAt v u) (scan_field v p f) agree in
      let asked = first (field_reads v p n) (directive_reads f.directives ++ set_scan v (parent_below v p n) f.selections) parts in
      let rest = second (directive_reads f.directives) (set_scan v (parent_below v p n) f.selections)
      (second (field_reads v p n) (directive_reads f.directives ++ set_scan v (parent_below v p n) f.selections) parts) in
      let below = set_stays f.selections (parent_below v p n) each rest in
      let parent = below_same p n asked in
      record {
        nodes = nodes_field u f p ∙ ap (λ q. field (field_node p f) ∷ nodes u q f.selections) parent ∙ ap (λ l. field (field_node p f) ∷ l) below.nodes ∙ sym (nodes_field v f p);
        scan = scan_field u p f ∙ ap (λ l. l ++ (directive_reads f.directives ++ set_scan u (parent_below u p n) f.selections)) (field_same p n asked)
            ∙ ap (λ q. field_reads v p n ++ (directive_reads f.directives ++ set_scan u q f.selections)) parent
            ∙ ap (λ l. field_reads v p n ++ (directive_reads f.directives ++ l)) below.scan ∙ sym (scan_field v p f);
      }

  inline_stays : (i : InlineFragment) → Each Stays i.selections → Stays (s.InlineFragment i)
  inline_stays i each p agree =
      let c = i.condition in
      let parts : AgreeAt v u (inline_scan v p i) = subst (AgreeAt v u) (scan_inline v p i) agree in
      let asked = first (condition_reads c) (directive_reads i.directives ++ set_scan v (parent_within v p c) i.selections) parts in
      let rest = second (directive_reads i.directives) (set_scan v (parent_within v p c) i.selections)
      (second (condition_reads c) (directive_reads i.directives ++ set_scan v (parent_within v p c) i.selections) parts) in
      let below = set_stays i.selections (parent_within v p c) each rest in
      let parent = within_same p c asked in
      record {
        nodes = nodes_inline u i p ∙ ap (λ q. inline (inline_node p i) ∷ nodes u q i.selections) parent ∙ ap (λ l. inline (inline_node p i) ∷ l) below.nodes ∙ sym (nodes_inline v i p);
        scan = scan_inline u p i ∙ ap (λ q. condition_reads c ++ (directive_reads i.directives ++ set_scan u q i.selections)) parent
            ∙ ap (λ l. condition_reads c ++ (directive_reads i.directives ++ l)) below.scan ∙ sym (scan_inline v p i);
      }

  spread_stays : (x : Spread) → Stays (s.Spread x)
  spread_stays x p agree = record {
    nodes = nodes_spread u x p ∙ sym (nodes_spread v x p);
    scan = scan_spread u p x ∙ sym (scan_spread v p x);
  }

  -- a selection set
  pub set_same : (p : Option (List ℕ)) (xs : List Selection) → AgreeAt v u (set_scan v p xs) → SameSet p xs
  set_same p xs = set_stays xs p (by_set Stays field_stays spread_stays inline_stays xs)

  -- a fragment
  pub record SameFragment (f : Fragment) : Type 0 where
    pub nodes : fragment_nodes u f ≡ fragment_nodes v f
    pub reads : fragment_reads u f ≡ fragment_reads v f

  pub fragment_same : (f : Fragment) → AgreeAt v u (fragment_reads v f) → SameFragment f
  fragment_same f agree =
      let c = Some f.condition.text in
      let asked = first (composite_reads c) (directive_reads f.directives ++ set_scan v (composite v c) f.selections) agree in
      let rest = second (directive_reads f.directives) (set_scan v (composite v c) f.selections)
      (second (composite_reads c) (directive_reads f.directives ++ set_scan v (composite v c) f.selections) agree) in
      let parent = composite_same c asked in
      let below = set_same (composite v c) f.selections rest in
      record {
        nodes = ap (λ q. nodes u q f.selections) parent ∙ below.nodes;
        reads = ap (λ q. composite_reads c ++ (directive_reads f.directives ++ set_scan u q f.selections)) parent
            ∙ ap (λ l. composite_reads c ++ (directive_reads f.directives ++ l)) below.scan;
      }

  -- an operation
  pub record SameOperation (o : Operation) : Type 0 where
    pub nodes : operation_nodes u o ≡ operation_nodes v o
    pub reads : operation_reads u o ≡ operation_reads v o

  pub operation_same : (o : Operation) → AgreeAt v u (operation_reads v o) → SameOperation o
  operation_same o agree =
      let k = key.RootOf o.kind in
      let r = selected_root v o.kind in
      let scan = set_scan v (root_parent v o.kind) o.selections in
      let vars = flat_map variable_reads o.variables in
      let after : AgreeAt v u (composite_reads r ++ (directive_reads o.directives ++ (vars ++ scan))) = λ j h. agree j (Contains-there j k (composite_reads r ++ (directive_reads o.directives ++ (vars ++ scan))) h) in
      let root : selected_root u o.kind ≡ r = ap (selected_by o.kind) (agree k (Contains-here k (composite_reads r ++ (directive_reads o.directives ++ (vars ++ scan))))) in
      let asked = first (composite_reads r) (directive_reads o.directives ++ (vars ++ scan)) after in
      let rest = second vars scan (second (directive_reads o.directives) (vars ++ scan) (second (composite_reads r) (directive_reads o.directives ++ (vars ++ scan)) after)) in
      let parent : root_parent u o.kind ≡ root_parent v o.kind = ap (composite u) root ∙ composite_same r asked in
      let below = set_same (root_parent v o.kind) o.selections rest in
      record {
        nodes = ap (λ q. nodes u q o.selections) parent ∙ below.nodes;
        reads = ap (λ q. k ∷ (composite_reads q ++ (directive_reads o.directives ++ (vars ++ set_scan u (root_parent u o.kind) o.selections)))) root
            ∙ ap (λ q. k ∷ (composite_reads r ++ (directive_reads o.directives ++ (vars ++ set_scan u q o.selections)))) parent
            ∙ ap (λ l. k ∷ (composite_reads r ++ (directive_reads o.directives ++ (vars ++ l)))) below.scan;
      }

  -- a definition
  parts_same : (t : Tree) → AgreeAt v u (executable_reads v t) → executable_reads u t ≡ executable_reads v t
  parts_same (tree.Operation o) agree = (operation_same o agree).reads
  parts_same (tree.Fragment f) agree = (fragment_same f agree).reads
  parts_same (tree.Schema d) agree = refl
  parts_same (tree.Type d) agree = refl
  parts_same (tree.Directive d) agree = refl
  parts_same (tree.SchemaExtension d) agree = refl
  parts_same (tree.TypeExtension d) agree = refl

  pub tree_same : (t : Tree) → AgreeAt v u (tree_reads v t) → tree_reads u t ≡ tree_reads v t
  tree_same t agree = ap (λ l. float_read ∷ l) (parts_same t (second (float_read ∷ []) (executable_reads v t) agree))

-- ---- reach and reads

module _ (v u : Facts) (d : Definition) (agree : Agree v u d) where
  own_same : own_reads u d ≡ own_reads v d
  own_same = tree_same v u d.tree (λ k h. agree k (own h))

  of_same : (g : FragmentFact) → Reaches v d g → fragment_reads u g.fragment ≡ fragment_reads v g.fragment
  of_same g r = (fragment_same v u g.fragment (λ k h. agree k (of_fragment r h))).reads

  pub reaches_there : {g : FragmentFact} → Reaches v d g → Reaches u d g
  reaches_there (by_definition {n} {g} c e) = by_definition (subst (λ l. Contains l (key.FragmentOf n)) (sym own_same) c) (agree (key.FragmentOf n) (own c) ∙ e)
  reaches_there (by_fragment {n} {f} {g} r c e) = by_fragment (reaches_there r) (subst (λ l. Contains l (key.FragmentOf n)) (sym (of_same f r)) c) (agree (key.FragmentOf n) (of_fragment r c) ∙ e)

  pub reaches_back : {g : FragmentFact} → Reaches u d g → Reaches v d g
  reaches_back (by_definition {n} {g} c e) =
      let c' = subst (λ l. Contains l (key.FragmentOf n)) own_same c in
      by_definition c' (sym (agree (key.FragmentOf n) (own c')) ∙ e)
  reaches_back (by_fragment {n} {f} {g} r c e) =
      let r' = reaches_back r in
      let c' = subst (λ l. Contains l (key.FragmentOf n)) (of_same f r') c in
      by_fragment r' c' (sym (agree (key.FragmentOf n) (of_fragment r' c')) ∙ e)

  pub reads_there : {k : Key} → Reads v d k → Reads u d k
  reads_there (own {k} c) = own (subst (λ l. Contains l k) (sym own_same) c)
  reads_there (of_fragment {g} {k} r c) = of_fragment (reaches_there r) (subst (λ l. Contains l k) (sym (of_same g r)) c)
  reads_there (of_type {j} {k} {t} r c h) = of_type (reads_there r) (subst (λ f. Contains (types_in f) t) (sym (agree j r)) c) h

  pub reads_back : {k : Key} → Reads u d k → Reads v d k
  reads_back (own {k} c) = own (subst (λ l. Contains l k) own_same c)
  reads_back (of_fragment {g} {k} r c) = let r' = reaches_back r in of_fragment r' (subst (λ l. Contains l k) (of_same g r') c)
  reads_back (of_type {j} {k} {t} r c h) = let r' = reads_back r in of_type r' (subst (λ f. Contains (types_in f) t) (agree j r') c) h
