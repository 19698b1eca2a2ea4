-- Facts that agree on what a definition asks give it the same sets.
use Rattle.std.specs.Prelude.{◌≡◌, ℕ, List, [], ◌∷◌, ◌++◌, map, flat_map, Bool, true, false, refl, Option, Some, None, option_map, if◌then◌else◌}
use Rattle.std.proofs.Common.{ap, sym, ◌∙◌, subst}
use Rattle.std.proofs.lemmas.List.Elements.{Contains-append_left, Contains-append_right}
use Rattle.gql_ast.specs.declared.definition.Tree.{Tree}
use Rattle.gql_ast.specs.declared.definition.Tree.TheVariants as tree
use Rattle.gql_ast.specs.declared.executable.Field.{Field}
use Rattle.gql_ast.specs.declared.executable.Fragment.{Fragment}
use Rattle.gql_ast.specs.declared.executable.InlineFragment.{InlineFragment}
use Rattle.gql_ast.specs.declared.executable.Operation.{Operation}
use Rattle.gql_ast.specs.declared.executable.Selection.{Selection}
use Rattle.gql_ast.specs.declared.executable.Selection.TheVariants as s
use Rattle.gql_ast.specs.declared.executable.Spread.{Spread}
use Rattle.gql_ast.specs.declared.text.Name.{Name}
use Rattle.gql_facts.proofs.Agreement.{AgreeAt}
use Rattle.gql_facts.proofs.Parts.{scan_cons, scan_field, scan_inline}
use Rattle.gql_facts.proofs.Trees.{Each, by_set}
use Rattle.gql_facts.specs.Floats.{float_read}
use Rattle.gql_facts.specs.ListMembers.{Contains-here, Contains-there, some_same}
use Rattle.gql_facts.specs.Nodes.{composite, field_type, field_type_in, has_any, is_composite_fact, parent_below, parent_within}
use Rattle.gql_facts.specs.OwnReads.{composite_reads, condition_reads, directive_reads, field_reads, field_scan, fragment_reads, inline_scan, operation_reads, root_parent, selected_by, selected_root, selection_scan, set_scan, tree_reads, variable_reads}
use Rattle.gql_facts.specs.Worlds.{Facts}
use Rattle.gql_facts.specs.declared.fact.Fact.{Fact}
use Rattle.gql_facts.specs.declared.fact.Fact.TheVariants as fact
use Rattle.gql_facts.specs.declared.key.Key.{Key}
use Rattle.gql_facts.specs.declared.key.Key.TheVariants as key
use Rattle.gql_merge.specs.FieldNodes.{FieldInfo}
use Rattle.gql_merge.specs.FieldSets.{Part, WrittenField, info_by, info_of, joined, known_info, part_field, part_in, part_inline, part_of_field, part_spread, part_within, written_field}
use Rattle.gql_merge.specs.MergedNodes.{fragment_part, operation_part, tree_part}
use Rattle.gql_rules.specs.Answers.{field_in, kind_in, kind_of}

-- the type that is chosen is the type itself
kind_chosen : (b : Bool) (s t : List ℕ) → (if b then Some s else None) ≡ Some t → s ≡ t
kind_chosen true s t e = some_same s t e
kind_chosen false s t e = absurd (let h : None ≡ Some t = e in cc)

module _ (v u : Facts) where
  first : (a b : List Key) → AgreeAt v u (a ++ b) → AgreeAt v u a
  first a b agree k h = agree k (Contains-append_left a b k h)

  second : (a b : List Key) → AgreeAt v u (a ++ b) → AgreeAt v u b
  second a b agree k h = agree k (Contains-append_right a b k h)

  -- the kind of a parent type is one
  abbrev KindAgrees : Option (List ℕ) → Type 0
  KindAgrees p = (t : List ℕ) → p ≡ Some t → u (key.KindOf t) ≡ v (key.KindOf t)

  kind_here : (t : List ℕ) → AgreeAt v u (composite_reads (Some t)) → u (key.KindOf t) ≡ v (key.KindOf t)
  kind_here t agree = agree (key.KindOf t) (Contains-here (key.KindOf t) (key.PossibleOf t ∷ []))

  composite_same : (o : Option (List ℕ)) → AgreeAt v u (composite_reads o) → composite u o ≡ composite v o
  composite_same None agree = refl
  composite_same (Some t) agree = ap (λ f. if is_composite_fact f then Some t else None) (kind_here t agree)

  -- a composite type is the type itself
  composite_kind : (o : Option (List ℕ)) → AgreeAt v u (composite_reads o) → KindAgrees (composite v o)
  composite_kind None agree t e = absurd (let h : None ≡ Some t = e in cc)
  composite_kind (Some s) agree t e = subst (λ n. u (key.KindOf n) ≡ v (key.KindOf n)) (kind_chosen (is_composite_fact (v (key.KindOf s))) s t e) (kind_here s agree)

  -- a field of a type
  abbrev Infos : Facts → List ℕ → List ℕ → WrittenField → Fact → Option FieldInfo
  Infos F file t f g = option_map (info_of F file t f) (field_in g)

  info_same : (file t : List ℕ) (f : WrittenField) (g : Fact) → u (key.KindOf t) ≡ v (key.KindOf t) → AgreeAt v u (composite_reads (field_type_in g)) → Infos u file t f g ≡ Infos v file t f g
  info_same file t f fact.Absent k agree = refl
  info_same file t f (fact.Kind x) k agree = refl
  info_same file t f (fact.Field d) k agree =
      ap (λ h. Some (info_by file t f d (kind_in h) (kind_of u d.of_type.name))) k
      ∙ ap (λ h. Some (info_by file t f d (kind_of v t) (kind_in h))) (kind_here d.of_type.name agree)
  info_same file t f (fact.Possible x) k agree = refl
  info_same file t f (fact.Input x) k agree = refl
  info_same file t f (fact.Enum x) k agree = refl
  info_same file t f (fact.Directive x) k agree = refl
  info_same file t f (fact.Root x) k agree = refl
  info_same file t f (fact.Fragment x) k agree = refl

  known_same : (file : List ℕ) (p : Option (List ℕ)) (f : WrittenField) → KindAgrees p → AgreeAt v u (field_reads v p f.name.text) → known_info u file p f ≡ known_info v file p f
  known_same file None f kind agree = refl
  known_same file (Some t) f kind agree =
      let k = key.FieldOf t f.name.text in
      let rest = composite_reads (field_type v (Some t) f.name.text) in
      ap (Infos u file t f) (agree k (Contains-here k rest))
      ∙ info_same file t f (v k) (kind t refl) (λ j h. agree j (Contains-there j k rest h))

  type_same : (p : Option (List ℕ)) (n : List ℕ) → AgreeAt v u (field_reads v p n) → field_type u p n ≡ field_type v p n
  type_same None n agree = refl
  type_same (Some t) n agree = ap field_type_in (agree (key.FieldOf t n) (Contains-here (key.FieldOf t n) (composite_reads (field_type v (Some t) n))))

  below_reads : (p : Option (List ℕ)) (n : List ℕ) → AgreeAt v u (field_reads v p n) → AgreeAt v u (composite_reads (field_type v p n))
  below_reads None n agree = agree
  below_reads (Some t) n agree = λ k h. agree k (Contains-there k (key.FieldOf t n) (composite_reads (field_type v (Some t) n)) h)

  below_same : (p : Option (List ℕ)) (n : List ℕ) → AgreeAt v u (field_reads v p n) → parent_below u p n ≡ parent_below v p n
  below_same p n agree = ap (composite u) (type_same p n agree) ∙ composite_same (field_type v p n) (below_reads p n agree)

  below_kind : (p : Option (List ℕ)) (n : List ℕ) → AgreeAt v u (field_reads v p n) → KindAgrees (parent_below v p n)
  below_kind p n agree = composite_kind (field_type v p n) (below_reads p n agree)

  within_same : (p : Option (List ℕ)) (c : Option Name) → AgreeAt v u (condition_reads c) → parent_within u p c ≡ parent_within v p c
  within_same p None agree = refl
  within_same p (Some c) agree = composite_same (Some c.text) agree

  within_kind : (p : Option (List ℕ)) (c : Option Name) → KindAgrees p → AgreeAt v u (condition_reads c) → KindAgrees (parent_within v p c)
  within_kind p None kind agree = kind
  within_kind p (Some c) kind agree = composite_kind (Some c.text) agree

  module _ (file : List ℕ) where
    abbrev Stays : Selection → Type 0
    Stays x = (p : Option (List ℕ)) → KindAgrees p → AgreeAt v u (selection_scan v p x) → part_in u file x p ≡ part_in v file x p

    abbrev parts : Facts → Option (List ℕ) → List Selection → List Part
    parts F p xs = map (λ x. part_in F file x p) xs

    list_stays : (xs : List Selection) (p : Option (List ℕ)) → Each Stays xs → KindAgrees p → AgreeAt v u (set_scan v p xs) → parts u p xs ≡ parts v p xs
    list_stays [] p each kind agree = refl
    list_stays (x ∷ xs) p each kind agree =
        let both : AgreeAt v u (selection_scan v p x ++ set_scan v p xs) = subst (AgreeAt v u) (scan_cons v p x xs) agree in
        ap (λ r. r ∷ parts u p xs) (each.0 p kind (first (selection_scan v p x) (set_scan v p xs) both))
        ∙ ap (λ l. part_in v file x p ∷ l) (list_stays xs p each.1 kind (second (selection_scan v p x) (set_scan v p xs) both))

    set_stays : (xs : List Selection) (p : Option (List ℕ)) → Each Stays xs → KindAgrees p → AgreeAt v u (set_scan v p xs) → part_within u file p xs ≡ part_within v file p xs
    set_stays xs p each kind agree = ap joined (list_stays xs p each kind agree)

    field_stays : (f : Field) → Each Stays f.selections → Stays (s.Field f)
    field_stays f each p kind agree =
        let n = f.name.text in
        let scan = set_scan v (parent_below v p n) f.selections in
        let both : AgreeAt v u (field_scan v p f) = subst (AgreeAt v u) (scan_field v p f) agree in
        let asked = first (field_reads v p n) (directive_reads f.directives ++ scan) both in
        let rest = second (directive_reads f.directives) scan (second (field_reads v p n) (directive_reads f.directives ++ scan) both) in
        part_field u file f p
        ∙ ap (λ k. part_of_field k (has_any f.selections) (part_within u file (parent_below u p n) f.selections)) (known_same file p (written_field f) kind asked)
        ∙ ap (λ q. part_of_field (known_info v file p (written_field f)) (has_any f.selections) (part_within u file q f.selections)) (below_same p n asked)
        ∙ ap (part_of_field (known_info v file p (written_field f)) (has_any f.selections)) (set_stays f.selections (parent_below v p n) each (below_kind p n asked) rest)
        ∙ sym (part_field v file f p)

    inline_stays : (i : InlineFragment) → Each Stays i.selections → Stays (s.InlineFragment i)
    inline_stays i each p kind agree =
        let c = i.condition in
        let scan = set_scan v (parent_within v p c) i.selections in
        let both : AgreeAt v u (inline_scan v p i) = subst (AgreeAt v u) (scan_inline v p i) agree in
        let asked = first (condition_reads c) (directive_reads i.directives ++ scan) both in
        let rest = second (directive_reads i.directives) scan (second (condition_reads c) (directive_reads i.directives ++ scan) both) in
        part_inline u file i p
        ∙ ap (λ q. part_within u file q i.selections) (within_same p c asked)
        ∙ set_stays i.selections (parent_within v p c) each (within_kind p c kind asked) rest
        ∙ sym (part_inline v file i p)

    spread_stays : (x : Spread) → Stays (s.Spread x)
    spread_stays x p kind agree = part_spread u file x p ∙ sym (part_spread v file x p)

    set_same : (p : Option (List ℕ)) (xs : List Selection) → KindAgrees p → AgreeAt v u (set_scan v p xs) → part_within u file p xs ≡ part_within v file p xs
    set_same p xs = set_stays xs p (by_set Stays field_stays spread_stays inline_stays xs)

    pub fragment_same : (f : Fragment) → AgreeAt v u (fragment_reads v f) → fragment_part u file f ≡ fragment_part v file f
    fragment_same f agree =
        let c = Some f.condition.text in
        let scan = set_scan v (composite v c) f.selections in
        let asked = first (composite_reads c) (directive_reads f.directives ++ scan) agree in
        let rest = second (directive_reads f.directives) scan (second (composite_reads c) (directive_reads f.directives ++ scan) agree) in
        ap (λ q. part_within u file q f.selections) (composite_same c asked)
        ∙ set_same (composite v c) f.selections (composite_kind c asked) rest

    operation_same : (o : Operation) → AgreeAt v u (operation_reads v o) → operation_part u file o ≡ operation_part v file o
    operation_same o agree =
        let k = key.RootOf o.kind in
        let r = selected_root v o.kind in
        let scan = set_scan v (root_parent v o.kind) o.selections in
        let vars = flat_map variable_reads o.variables in
        let ds = directive_reads o.directives in
        let after : AgreeAt v u (composite_reads r ++ (ds ++ (vars ++ scan))) = λ j h. agree j (Contains-there j k (composite_reads r ++ (ds ++ (vars ++ scan))) h) in
        let root : selected_root u o.kind ≡ r = ap (selected_by o.kind) (agree k (Contains-here k (composite_reads r ++ (ds ++ (vars ++ scan))))) in
        let asked = first (composite_reads r) (ds ++ (vars ++ scan)) after in
        let rest = second vars scan (second ds (vars ++ scan) (second (composite_reads r) (ds ++ (vars ++ scan)) after)) in
        ap (λ q. part_within u file (composite u q) o.selections) root
        ∙ ap (λ q. part_within u file q o.selections) (composite_same r asked)
        ∙ set_same (root_parent v o.kind) o.selections (composite_kind r asked) rest

    pub tree_same : (t : Tree) → AgreeAt v u (tree_reads v t) → tree_part u file t ≡ tree_part v file t
    tree_same (tree.Operation o) agree = ap Some (operation_same o (λ k h. agree k (Contains-there k float_read (operation_reads v o) h)))
    tree_same (tree.Fragment f) agree = ap Some (fragment_same f (λ k h. agree k (Contains-there k float_read (fragment_reads v f) h)))
    tree_same (tree.Schema d) agree = refl
    tree_same (tree.Type d) agree = refl
    tree_same (tree.Directive d) agree = refl
    tree_same (tree.SchemaExtension d) agree = refl
    tree_same (tree.TypeExtension d) agree = refl
