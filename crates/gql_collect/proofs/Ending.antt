-- Selections that lead to no cycle of fragments unfold into fields.
use Rattle.std.proofs.Common.{◌≡◌, ◌⊎◌, ◌+◌, ◌≤◌, ℕ, zero, suc, List, [], ◌∷◌, ◌++◌, Bool, true, false, not, ◌||◌, if◌then◌else◌, Option, Some, None, map, Contains, refl, sym, ap, ◌∙◌, subst, inl, inr, arith, append_assoc}
use Rattle.std.proofs.lemmas.List.Elements.{Contains-append_left, Contains-append_right}
use Rattle.gql_ast.specs.declared.executable.Field.{Field}
use Rattle.gql_ast.specs.declared.executable.InlineFragment.{InlineFragment}
use Rattle.gql_ast.specs.declared.executable.Selection.{Selection, out-Selection, roll-Selection, roll-out-Selection}
use Rattle.gql_ast.specs.declared.executable.Selection.TheOpen.{Selection-F}
use Rattle.gql_ast.specs.declared.executable.Selection.TheVariants as s
use Rattle.gql_ast.specs.declared.executable.Spread.{Spread}
use Rattle.gql_facts.specs.ListMembers.{Contains-nil, Contains-here}
use Rattle.gql_facts.specs.declared.fact.FragmentFact.{FragmentFact}
use Rattle.gql_collect.specs.Conditions.{is_left_out, is_possible}
use Rattle.gql_collect.specs.Nodes.{FileSelection, FieldNode, Part, node, selections, in_file}
use Rattle.gql_collect.specs.Spreads.{LeadsTo, spread, further, NoCycles, own_selections, selections_in, spreads, spreads_of, spreads_inline, spreads_spread}
use Rattle.gql_collect.specs.Unfolding.{Given, Unfolds, nothing, kept, replaced, part, part_at, held, held_by, applies, field_part, spread_part, inline_part, fragment_named}
use Rattle.gql_collect.specs.Walks.{is_in, left, size, sizes, sizes_in, size_inline}
use Rattle.gql_collect.proofs.Firsts.{either}
use Rattle.gql_collect.proofs.Visiting.{sizes_in_file}
use Rattle.gql_collect.proofs.Walking.{entered, grown, size_two}

module _ (g : Given) (t : List ℕ) where
  -- the fields that selections unfold into
  pub record Ends (xs : List FileSelection) : Type 0 where
    pub nodes : List FieldNode
    pub unfolds : Unfolds g t xs nodes

  pub both : {xs ys : List FileSelection} {ns ms : List FieldNode} → Unfolds g t xs ns → Unfolds g t ys ms → Unfolds g t (xs ++ ys) (ns ++ ms)
  both nothing v = v
  both (kept e u) v = kept e (both u v)
  both {ys = ys} {ms = ms} (replaced {xs = zs} {rest = rest} {ns = ns} e u) v =
      replaced e (subst (λ l. Unfolds g t l (ns ++ ms)) (append_assoc zs rest ys) (both u v))

  pub joined : (xs ys : List FileSelection) → Ends xs → Ends ys → Ends (xs ++ ys)
  joined xs ys a b = record { nodes = a.nodes ++ b.nodes; unfolds = both a.unfolds b.unfolds }

  by_part : (x : FileSelection) (p : Part) → part g t x ≡ p → ((xs : List FileSelection) → p ≡ selections xs → Ends xs) → Ends (x ∷ [])
  by_part x (node n) e ends = record { nodes = n ∷ []; unfolds = kept e nothing }
  by_part x (selections xs) e ends =
      let r = joined xs [] (ends xs refl) (record { nodes = []; unfolds = nothing }) in
      record { nodes = r.nodes; unfolds = replaced e r.unfolds }

  -- one selection, if what is in its place ends
  pub one_ends : (x : FileSelection) → ((xs : List FileSelection) → part g t x ≡ selections xs → Ends xs) → Ends (x ∷ [])
  one_ends x ends = by_part x (part g t x) refl ends

-- ---- the form of a selection

pub data Form (x : Selection) : Type 0 where
  of_field : (f : Field) → x ≡ s.Field f → Form x
  of_spread : (y : Spread) → x ≡ s.Spread y → Form x
  of_inline : (i : InlineFragment) → x ≡ s.InlineFragment i → Form x

pub form : (x : Selection) → Form x
form x = by (out-Selection x) refl where
  by : (y : Selection-F Selection Field InlineFragment) → out-Selection x ≡ y → Form x
  by (Selection-F.Field f) e = of_field f (sym (roll-out-Selection x) ∙ ap roll-Selection e ∙ s.rolls-Field f)
  by (Selection-F.Spread y) e = of_spread y (sym (roll-out-Selection x) ∙ ap roll-Selection e ∙ s.rolls-Spread y)
  by (Selection-F.InlineFragment i) e = of_inline i (sym (roll-out-Selection x) ∙ ap roll-Selection e ∙ s.rolls-InlineFragment i)

-- ---- what is in its place

same_selections : {xs ys : List FileSelection} → selections xs ≡ selections ys → xs ≡ ys
same_selections e = cc e

abbrev of_all : List FileSelection → List Selection
of_all xs = map (λ (x : FileSelection). x.selection) xs

of_file : (file : List ℕ) (xs : List Selection) → of_all (in_file file xs) ≡ xs
of_file file [] = refl
of_file file (x ∷ xs) = ap (λ l. x ∷ l) (of_file file xs)

module _ (g : Given) (t : List ℕ) (start : List Selection) (acyclic : NoCycles g start) where
  -- the names that were entered lead to what these selections spread
  record Free (names : List (List ℕ)) (xs : List FileSelection) : Type 0 where
    chain : (p m : List ℕ) → is_in p names ≡ true → Contains (spreads_of (of_all xs)) m → LeadsTo g (own_selections g p) m
    from : (m : List ℕ) → Contains (spreads_of (of_all xs)) m → LeadsTo g start m

  abbrev Within : List FileSelection → List FileSelection → Type 0
  Within ys xs = (m : List ℕ) → Contains (spreads_of (of_all ys)) m → Contains (spreads_of (of_all xs)) m

  narrowed : {names : List (List ℕ)} {xs ys : List FileSelection} → Within ys xs → Free names xs → Free names ys
  narrowed within free = record {
    chain = λ p m there c. free.chain p m there (within m c);
    from = λ m c. free.from m (within m c);
  }

  rest_within : (x : FileSelection) (xs : List FileSelection) → Within xs (x ∷ xs)
  rest_within x xs m c = Contains-append_right (spreads x.selection) (spreads_of (of_all xs)) m c

  inline_within : (x : FileSelection) (i : InlineFragment) (xs : List FileSelection) → x.selection ≡ s.InlineFragment i
      → Within (in_file x.file i.selections) (x ∷ xs)
  inline_within x i xs e m c = Contains-append_left (spreads x.selection) (spreads_of (of_all xs)) m
      (subst (λ l. Contains l m) (sym (spreads_inline i) ∙ ap spreads (sym e))
      (subst (λ l. Contains (spreads_of l) m) (of_file x.file i.selections) c))

  spread_there : (x : FileSelection) (y : Spread) (xs : List FileSelection) → x.selection ≡ s.Spread y
      → Contains (spreads_of (of_all (x ∷ xs))) y.name.text
  spread_there x y xs e = Contains-append_left (spreads x.selection) (spreads_of (of_all xs)) y.name.text
      (subst (λ l. Contains l y.name.text) (sym (spreads_spread y) ∙ ap spreads (sym e)) (Contains-here y.name.text []))

  -- what a fragment holds is of its own selections
  held_within : (n m : List ℕ) → Contains (spreads_of (of_all (held g t n))) m → Contains (spreads_of (own_selections g n)) m
  held_within n m c = by (fragment_named g n) c where
    in_own : (f : FragmentFact) (b : Bool)
        → Contains (spreads_of (of_all (if b then in_file f.file f.fragment.selections else []))) m
        → Contains (spreads_of f.fragment.selections) m
    in_own f true c = subst (λ l. Contains (spreads_of l) m) (of_file f.file f.fragment.selections) c
    in_own f false c = absurd (Contains-nil m c)

    by : (o : Option FragmentFact) → Contains (spreads_of (of_all (held_by g t o))) m → Contains (spreads_of (selections_in o)) m
    by None c = absurd (Contains-nil m c)
    by (Some f) c = in_own f (is_possible g.schema t f.fragment.condition.text) c

  entered_free : (names : List (List ℕ)) (xs : List FileSelection) (n : List ℕ) → Contains (spreads_of (of_all xs)) n
      → Free names xs → Free (names ++ n ∷ []) (held g t n)
  entered_free names xs n there free = record {
    chain = λ p m h c. by p m (grown g t names n p h) (held_within n m c);
    from = λ m c. further (free.from n there) (held_within n m c);
  } where
    by : (p m : List ℕ) → (is_in p names ≡ true) ⊎ (p ≡ n) → Contains (spreads_of (own_selections g n)) m → LeadsTo g (own_selections g p) m
    by p m (inl h) c = further (free.chain p n h there) c
    by p m (inr e) c = subst (λ q. LeadsTo g (own_selections g q) m) (sym e) (spread c)

  no_more : Ends g t []
  no_more = record { nodes = []; unfolds = nothing }

  abbrev Walk : ℕ → Type 0
  Walk k = (names : List (List ℕ)) (xs : List FileSelection) → left g.fragments names + sizes_in xs ≤ k → Free names xs → Ends g t xs

  -- what is in the place of a selection
  module _ (k : ℕ) (walk : Walk k) (names : List (List ℕ)) (x : FileSelection) (xs : List FileSelection)
      (enough : left g.fragments names + (size x.selection + sizes_in xs) ≤ suc k) (free : Free names (x ∷ xs)) where
    of_test : (b : Bool) (ys zs : List FileSelection) → (if b then selections [] else selections ys) ≡ selections zs → Ends g t ys → Ends g t zs
    of_test true ys zs e ends = subst (λ l. Ends g t l) (same_selections e) no_more
    of_test false ys zs e ends = subst (λ l. Ends g t l) (same_selections e) ends

    in_field : (f : Field) (zs : List FileSelection) → field_part g x.file f ≡ selections zs → Ends g t zs
    in_field f zs e = by (is_left_out g.values f.directives) e where
      by : (b : Bool) → (if b then selections [] else node (record { file = x.file; field = f })) ≡ selections zs → Ends g t zs
      by true e = subst (λ l. Ends g t l) (same_selections e) no_more
      by false e = absurd (cc e)

    in_spread : (y : Spread) (zs : List FileSelection) → x.selection ≡ s.Spread y → spread_part g t y ≡ selections zs → Ends g t zs
    in_spread y zs is e = of_test (is_left_out g.values y.directives) (held g t y.name.text) zs e (elim (either (is_in y.name.text names)) [
      | inl h ↦ absurd (acyclic y.name.text (free.from y.name.text there) (free.chain y.name.text y.name.text h there))
      | inr h ↦
          let less = entered g t g.fragments names y.name.text h in
          let two = size_two x.selection in
          walk (names ++ y.name.text ∷ []) (held g t y.name.text) (omega (arith, enough, less, two))
          (entered_free names (x ∷ xs) y.name.text there free)
    ]) where
      there : Contains (spreads_of (of_all (x ∷ xs))) y.name.text
      there = spread_there x y xs is

    in_inline : (i : InlineFragment) (zs : List FileSelection) → x.selection ≡ s.InlineFragment i → inline_part g t x.file i ≡ selections zs → Ends g t zs
    in_inline i zs is e =
        let whole : size x.selection ≡ sizes i.selections + 2 = ap size is ∙ size_inline i in
        let same = sizes_in_file x.file i.selections in
        of_test (is_left_out g.values i.directives || not (applies g t i.condition)) (in_file x.file i.selections) zs e
        (walk names (in_file x.file i.selections) (omega (arith, enough, whole, same))
        (narrowed (inline_within x i xs is) free))

    in_place : (zs : List FileSelection) → part g t x ≡ selections zs → Ends g t zs
    in_place zs e = by (form x.selection) where
      at : (y : Selection) → x.selection ≡ y → part_at g t x.file (out-Selection y) ≡ selections zs
      at y is = ap (λ z. part_at g t x.file (out-Selection z)) (sym is) ∙ e

      by : Form x.selection → Ends g t zs
      by (of_field f is) = in_field f zs (sym (ap (part_at g t x.file) (s.outs-Field f)) ∙ at (s.Field f) is)
      by (of_spread y is) = in_spread y zs is (sym (ap (part_at g t x.file) (s.outs-Spread y)) ∙ at (s.Spread y) is)
      by (of_inline i is) = in_inline i zs is (sym (ap (part_at g t x.file) (s.outs-InlineFragment i)) ∙ at (s.InlineFragment i) is)

    next : Ends g t (x ∷ xs)
    next =
        let two = size_two x.selection in
        joined g t (x ∷ []) xs (one_ends g t x in_place)
        (walk names xs (omega (arith, enough, two)) (narrowed (rest_within x xs) free))

  walk : (k : ℕ) → Walk k
  walk k names [] enough free = no_more
  walk zero names (x ∷ xs) enough free = let two = size_two x.selection in absurd (omega (arith, enough, two))
  walk (suc k) names (x ∷ xs) enough free = next k (walk k) names x xs enough free

-- all of them end
pub all_end : (g : Given) (t : List ℕ) (xs : List FileSelection) → NoCycles g (of_all xs) → Ends g t xs
all_end g t xs acyclic = walk g t (of_all xs) acyclic (left g.fragments [] + sizes_in xs) [] xs (omega arith) (record {
  chain = λ p m there c. absurd (cc there);
  from = λ m c. spread c;
})
