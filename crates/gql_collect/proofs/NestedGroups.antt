-- Selections that nest at some depth have groups, and what their fields select nests less deep.
use Rattle.std.proofs.Common.{◌≡◌, ◌⊎◌, ℕ, zero, suc, List, [], ◌∷◌, ◌++◌, Bool, true, false, not, ◌||◌, ◌&&◌, if◌then◌else◌, Option, Some, None, map, filter, flat_map, bytes_eq, Contains, refl, sym, ap, ◌∙◌, subst, inl, inr}
use Rattle.std.proofs.lemmas.List.Elements.{Contains-append_cases}
use Rattle.gql_ast.specs.declared.executable.Field.{Field}
use Rattle.gql_ast.specs.declared.executable.InlineFragment.{InlineFragment}
use Rattle.gql_ast.specs.declared.executable.Selection.{Selection, out-Selection}
use Rattle.gql_ast.specs.declared.executable.Selection.TheVariants as s
use Rattle.gql_ast.specs.declared.executable.Spread.{Spread}
use Rattle.gql_facts.specs.ListMembers.{Contains-nil, Contains-here, Contains-there, Contains-cases}
use Rattle.gql_facts.specs.declared.fact.FragmentFact.{FragmentFact}
use Rattle.gql_collect.specs.Collection.{Collects, groups_from, selections_below}
use Rattle.gql_collect.specs.Conditions.{is_left_out, is_possible}
use Rattle.gql_collect.specs.Groups.{Group, firsts, group, groups_of, is_same_field, key_of}
use Rattle.gql_collect.specs.Nesting.{Nests, AllNest, NestedGroups, selections_of, of_field, of_inline, of_spread}
use Rattle.gql_collect.specs.Nodes.{FileSelection, FieldNode, Part, node, selections, in_file}
use Rattle.gql_collect.specs.Spreads.{own_selections, selections_in}
use Rattle.gql_collect.specs.Unfolding.{Given, Unfolds, nothing, kept, replaced, part, part_at, held, held_by, applies, field_part, spread_part, inline_part, fragment_named}
use Rattle.gql_collect.proofs.Ending.{both}

-- the selections of these
abbrev of_all : List FileSelection → List Selection
of_all xs = map (λ (x : FileSelection). x.selection) xs

of_file : (file : List ℕ) (xs : List Selection) → of_all (in_file file xs) ≡ xs
of_file file [] = refl
of_file file (x ∷ xs) = ap (λ l. x ∷ l) (of_file file xs)

module _ (g : Given) (t : List ℕ) where
  deeper : {k : ℕ} {x : Selection} → Nests g k x → Nests g (suc k) x
  deeper (of_field f is h) = of_field f is (λ y c. deeper (h y c))
  deeper (of_inline i is h) = of_inline i is (λ y c. deeper (h y c))
  deeper (of_spread r is h) = of_spread r is (λ y c. deeper (h y c))

  -- the fields that selections unfold into; what each selects nests so deep
  record Fields (k : ℕ) (xs : List FileSelection) : Type 0 where
    nodes : List FieldNode
    unfolds : Unfolds g t xs nodes
    below : (n : FieldNode) → Contains nodes n → AllNest g k n.field.selections

  no_fields : (k : ℕ) → Fields k []
  no_fields k = record { nodes = []; unfolds = nothing; below = λ n c. absurd (Contains-nil n c) }

  joined : (k : ℕ) (xs ys : List FileSelection) → Fields k xs → Fields k ys → Fields k (xs ++ ys)
  joined k xs ys a b = record {
    nodes = a.nodes ++ b.nodes;
    unfolds = both g t a.unfolds b.unfolds;
    below = λ n c. elim (Contains-append_cases a.nodes b.nodes n c) [
      | inl h ↦ a.below n h
      | inr h ↦ b.below n h
    ];
  }

  raised : (k : ℕ) (xs : List FileSelection) → Fields k xs → Fields (suc k) xs
  raised k xs a = record { nodes = a.nodes; unfolds = a.unfolds; below = λ n c x h. deeper (a.below n c x h) }

  by_part : (k : ℕ) (x : FileSelection) (p : Part) → part g t x ≡ p → ((n : FieldNode) → p ≡ node n → AllNest g k n.field.selections)
      → ((ys : List FileSelection) → p ≡ selections ys → Fields k ys) → Fields k (x ∷ [])
  by_part k x (node n) e at ends = record {
    nodes = n ∷ [];
    unfolds = kept e nothing;
    below = λ m c. elim (Contains-cases m n [] c) [
      | inl same ↦ subst (λ (o : FieldNode). AllNest g k o.field.selections) (sym same) (at n refl)
      | inr h ↦ absurd (Contains-nil m h)
    ];
  }
  by_part k x (selections ys) e at ends =
      let r = joined k ys [] (ends ys refl) (no_fields k) in
      record { nodes = r.nodes; unfolds = replaced e r.unfolds; below = r.below }

  same_node : {n m : FieldNode} → node n ≡ node m → n ≡ m
  same_node e = cc e

  same_selections : {xs ys : List FileSelection} → selections xs ≡ selections ys → xs ≡ ys
  same_selections e = cc e

  -- what is in the place of a selection of each form
  module _ (k : ℕ) (x : FileSelection) (inner : (ys : List FileSelection) → AllNest g k (of_all ys) → Fields k ys) where
    of_test : (b : Bool) (ys zs : List FileSelection) → (if b then selections [] else selections ys) ≡ selections zs → Fields k ys → Fields k zs
    of_test true ys zs e fs = subst (λ l. Fields k l) (same_selections e) (no_fields k)
    of_test false ys zs e fs = subst (λ l. Fields k l) (same_selections e) fs

    no_node : (b : Bool) (ys : List FileSelection) (n : FieldNode) → (if b then selections [] else selections ys) ≡ node n → ⊥
    no_node true ys n e = cc e
    no_node false ys n e = cc e

    in_field : (f : Field) → x.selection ≡ s.Field f → AllNest g k f.selections → Fields k (x ∷ [])
    in_field f is h = by_part k x (field_part g x.file f) (ap (λ z. part_at g t x.file (out-Selection z)) is ∙ ap (part_at g t x.file) (s.outs-Field f))
        (λ n e. nodes_nest (is_left_out g.values f.directives) n e) (λ ys e. no_more (is_left_out g.values f.directives) ys e)
      where
        nodes_nest : (b : Bool) (n : FieldNode) → (if b then selections [] else node (record { file = x.file; field = f })) ≡ node n → AllNest g k n.field.selections
        nodes_nest true n e = absurd (cc e)
        nodes_nest false n e = subst (λ (m : FieldNode). AllNest g k m.field.selections) (same_node e) h

        no_more : (b : Bool) (ys : List FileSelection) → (if b then selections [] else node (record { file = x.file; field = f })) ≡ selections ys → Fields k ys
        no_more true ys e = subst (λ l. Fields k l) (same_selections e) (no_fields k)
        no_more false ys e = absurd (cc e)

    in_inline : (i : InlineFragment) → x.selection ≡ s.InlineFragment i → AllNest g k i.selections → Fields k (x ∷ [])
    in_inline i is h = by_part k x (inline_part g t x.file i) (ap (λ z. part_at g t x.file (out-Selection z)) is ∙ ap (part_at g t x.file) (s.outs-InlineFragment i))
        (λ n e. absurd (no_node (is_left_out g.values i.directives || not (applies g t i.condition)) (in_file x.file i.selections) n e))
        (λ ys e. of_test (is_left_out g.values i.directives || not (applies g t i.condition)) (in_file x.file i.selections) ys e
        (inner (in_file x.file i.selections) (subst (AllNest g k) (sym (of_file x.file i.selections)) h)))

    in_spread : (r : Spread) → x.selection ≡ s.Spread r → AllNest g k (own_selections g r.name.text) → Fields k (x ∷ [])
    in_spread r is h = by_part k x (spread_part g t r) (ap (λ z. part_at g t x.file (out-Selection z)) is ∙ ap (part_at g t x.file) (s.outs-Spread r))
        (λ n e. absurd (no_node (is_left_out g.values r.directives) (held g t r.name.text) n e))
        (λ ys e. of_test (is_left_out g.values r.directives) (held g t r.name.text) ys e (inner (held g t r.name.text) (held_nest (fragment_named g r.name.text) h)))
      where
        of_condition : (f : FragmentFact) (b : Bool) → AllNest g k f.fragment.selections → AllNest g k (of_all (if b then in_file f.file f.fragment.selections else []))
        of_condition f true h = subst (AllNest g k) (sym (of_file f.file f.fragment.selections)) h
        of_condition f false h = λ y c. absurd (Contains-nil y c)

        held_nest : (o : Option FragmentFact) → AllNest g k (selections_in o) → AllNest g k (of_all (held_by g t o))
        held_nest None h = h
        held_nest (Some f) h = of_condition f (is_possible g.schema t f.fragment.condition.text) h

    one : Nests g (suc k) x.selection → Fields k (x ∷ [])
    one (of_field f is h) = in_field f is h
    one (of_inline i is h) = in_inline i is h
    one (of_spread r is h) = in_spread r is h

  each : (k : ℕ) (inner : (ys : List FileSelection) → AllNest g k (of_all ys) → Fields k ys) (xs : List FileSelection) → AllNest g (suc k) (of_all xs) → Fields k xs
  each k inner [] all = no_fields k
  each k inner (x ∷ xs) all = joined k (x ∷ []) xs (one k x inner (all x.selection (Contains-here x.selection (of_all xs))))
      (each k inner xs (λ y c. all y (Contains-there y x.selection (of_all xs) c)))

  none : (xs : List FileSelection) → AllNest g 0 (of_all xs) → Fields 0 xs
  none [] all = no_fields 0
  none (x ∷ xs) all = absurd (nests_not (all x.selection (Contains-here x.selection (of_all xs))))
    where
      nests_not : {y : Selection} → Nests g 0 y → ⊥
      nests_not n = elim n [ ]

  fields_of : (k : ℕ) (xs : List FileSelection) → AllNest g (suc k) (of_all xs) → Fields k xs
  fields_of zero xs all = each zero none xs all
  fields_of (suc k) xs all = each (suc k) (λ ys h. raised k ys (fields_of k ys h)) xs all

  -- ---- groups

  filtered_by : (b : Bool) (p : FieldNode → Bool) (m n : FieldNode) (ns : List FieldNode) → (Contains (filter p ns) n → Contains ns n)
      → Contains (if b then m ∷ filter p ns else filter p ns) n → Contains (m ∷ ns) n
  filtered_by true p m n ns rest c = elim (Contains-cases n m (filter p ns) c) [
    | inl e ↦ subst (λ o. Contains (m ∷ ns) o) (sym e) (Contains-here m ns)
    | inr h ↦ Contains-there n m ns (rest h)
  ]
  filtered_by false p m n ns rest c = Contains-there n m ns (rest c)

  filtered : (p : FieldNode → Bool) (ns : List FieldNode) (n : FieldNode) → Contains (filter p ns) n → Contains ns n
  filtered p [] n c = c
  filtered p (m ∷ ns) n c = filtered_by (p m) p m n ns (λ h. filtered p ns n h) c

  firsts_of : (ns : List FieldNode) (n : FieldNode) → Contains (firsts is_same_field ns) n → Contains ns n
  firsts_of [] n c = c
  firsts_of (m ∷ ns) n c = elim (Contains-cases n m (filter (λ y. not (is_same_field y m)) (firsts is_same_field ns)) c) [
    | inl e ↦ subst (λ o. Contains (m ∷ ns) o) (sym e) (Contains-here m ns)
    | inr h ↦ Contains-there n m ns (firsts_of ns n (filtered (λ y. not (is_same_field y m)) (firsts is_same_field ns) n h))
  ]

  grouped : (ns : List FieldNode) (ks : List (List ℕ)) (gr : Group) (n : FieldNode) → Contains (map (group ns) ks) gr → Contains gr.nodes n → Contains ns n
  grouped ns [] gr n there c = absurd (Contains-nil gr there)
  grouped ns (k ∷ ks) gr n there c = elim (Contains-cases gr (group ns k) (map (group ns) ks) there) [
    | inl e ↦ filtered (λ m. bytes_eq k (key_of m)) ns n (subst (λ (o : Group). Contains o.nodes n) e c)
    | inr h ↦ grouped ns ks gr n h c
  ]

  below_all : (k : ℕ) (ns : List FieldNode) → ((n : FieldNode) → Contains ns n → AllNest g k n.field.selections) → AllNest g k (of_all (selections_below ns))
  below_all k [] all = λ y c. absurd (Contains-nil y c)
  below_all k (n ∷ ns) all = λ y c.
      elim (Contains-append_cases (of_all (in_file n.file n.field.selections)) (of_all (selections_below ns)) y (subst (λ l. Contains l y) (of_append (in_file n.file n.field.selections) (selections_below ns)) c)) [
        | inl h ↦ all n (Contains-here n ns) y (subst (λ l. Contains l y) (of_file n.file n.field.selections) h)
        | inr h ↦ below_all k ns (λ m d. all m (Contains-there m n ns d)) y h
      ]
    where
      of_append : (xs ys : List FileSelection) → of_all (xs ++ ys) ≡ of_all xs ++ of_all ys
      of_append [] ys = refl
      of_append (x ∷ xs) ys = ap (λ l. x.selection ∷ l) (of_append xs ys)

  pub nested_groups : (k : ℕ) (xs : List FileSelection) → AllNest g (suc k) (selections_of xs) → NestedGroups g t k xs
  nested_groups k xs all =
      let fs = fields_of k xs all in
      let ns = firsts is_same_field fs.nodes in
      record {
        groups = groups_from fs.nodes;
        collects = record { nodes = fs.nodes; unfolds = fs.unfolds; are = refl };
        below = λ gr there. below_all k gr.nodes (λ n c. fs.below n (firsts_of fs.nodes n (grouped ns (firsts bytes_eq (map key_of ns)) gr n there c)));
      }
