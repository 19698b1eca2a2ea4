-- The names that selection sets spread, part by part.
use Rattle.std.specs.Prelude.{◌≡◌, ◌<◌, ◌≤◌, ◌+◌, ℕ, List, [], ◌∷◌, ◌++◌, map, flat_map, length, take, Bool, true, false, refl, Option, Some}
use Rattle.std.proofs.Common.{ap, sym, ◌∙◌, subst, get_or, Bor}
use Rattle.std.proofs.lemmas.List.{take_all, take_more}
use Rattle.gql_ast.specs.declared.definition.Definition.{Definition}
use Rattle.gql_ast.specs.declared.definition.Tree.TheVariants as tree
use Rattle.gql_ast.specs.declared.executable.Field.{Field}
use Rattle.gql_ast.specs.declared.executable.Fragment.{Fragment}
use Rattle.gql_ast.specs.declared.executable.InlineFragment.{InlineFragment}
use Rattle.gql_ast.specs.declared.executable.Operation.{Operation}
use Rattle.gql_ast.specs.declared.executable.Selection.{Selection}
use Rattle.gql_ast.specs.declared.executable.Selection.TheVariants as s
use Rattle.gql_ast.specs.declared.executable.Spread.{Spread}
use Rattle.gql_facts.specs.Nodes.{composite, has_any, parent_below, parent_within}
use Rattle.gql_facts.specs.OwnReads.{root_parent}
use Rattle.gql_facts.specs.Worlds.{Facts}
use Rattle.gql_merge.proofs.Appending.{append_assoc, append_end}
use Rattle.gql_merge.proofs.Drawing.{flat_end, map_end}
use Rattle.gql_merge.specs.FieldNodes.{FieldInfo, SetNode}
use Rattle.gql_merge.specs.FieldSets.{Part, joined, known_info, list_of, part_field, part_in, part_inline, part_of_field, part_of_spread, part_spread, part_within, set_if, set_of, written_field}
use Rattle.gql_merge.specs.MergedNodes.{fragment_part, operation_part, sets_in, sets_of, tree_part}
use Rattle.gql_merge.specs.SpreadNames.{AddsNames, AddsSets, AnyPart, if_any, names_in, names_of, spread_by}
use Rattle.gql_merge.specs.declared.spread_names.SetNames.{SetNames}

-- the part of a selection, and of a set, anywhere
abbrev pub in_selection : Selection → AnyPart
in_selection x = λ facts file parent. part_in facts file x parent

abbrev pub in_set : List Selection → AnyPart
in_set xs = λ facts file parent. part_within facts file parent xs

-- ---- lists

pub flat_append : {A B : Type 0} (f : A → List B) (xs ys : List A) → flat_map f (xs ++ ys) ≡ flat_map f xs ++ flat_map f ys
flat_append f [] ys = refl
flat_append f (x ∷ xs) ys = ap (λ l. f x ++ l) (flat_append f xs ys) ∙ sym (append_assoc (f x) (flat_map f xs) (flat_map f ys))

-- ---- one selection more

module _ (xs : List Selection) (i : ℕ) (x : Selection) (within : i < length xs) (item : get_or xs i x ≡ x) (facts : Facts) (file : List ℕ) (parent : Option (List ℕ)) where
  abbrev p : Part
  p = part_within facts file parent (take i xs)

  abbrev q : Part
  q = part_in facts file x parent

  parts : map (λ y. part_in facts file y parent) (take (i + 1) xs) ≡ map (λ y. part_in facts file y parent) (take i xs) ++ q ∷ []
  parts = ap (map (λ y. part_in facts file y parent)) (take_more xs i x within ∙ ap (λ y. take i xs ++ y ∷ []) item)
      ∙ map_end (λ y. part_in facts file y parent) (take i xs) x

  pub names_taken : (part_within facts file parent (take (i + 1) xs)).names ≡ p.names ++ q.names
  names_taken = ap (λ l. flat_map (λ (r : Part). r.names) l) parts ∙ flat_end (λ (r : Part). r.names) (map (λ y. part_in facts file y parent) (take i xs)) q

  pub sets_taken : (part_within facts file parent (take (i + 1) xs)).sets ≡ p.sets ++ q.sets
  sets_taken = ap (λ l. flat_map (λ (r : Part). r.sets) l) parts ∙ flat_end (λ (r : Part). r.sets) (map (λ y. part_in facts file y parent) (take i xs)) q

pub names_more : (xs : List Selection) (i : ℕ) (x : Selection) (old mid new : List (Bor (List ℕ))) → i < length xs → get_or xs i x ≡ x
    → AddsNames (in_set (take i xs)) old mid → AddsNames (in_selection x) mid new → AddsNames (in_set (take (i + 1) xs)) old new
names_more xs i x old mid new within item a b facts file parent =
    let p = part_within facts file parent (take i xs) in
    let q = part_in facts file x parent in
    b facts file parent ∙ ap (λ l. l ++ q.names) (a facts file parent) ∙ append_assoc (map (λ n. n.now) old) p.names q.names
    ∙ ap (λ l. map (λ n. n.now) old ++ l) (sym (names_taken xs i x within item facts file parent))

pub sets_more : (xs : List Selection) (i : ℕ) (x : Selection) (old mid new : List SetNames) → i < length xs → get_or xs i x ≡ x
    → AddsSets (in_set (take i xs)) old mid → AddsSets (in_selection x) mid new → AddsSets (in_set (take (i + 1) xs)) old new
sets_more xs i x old mid new within item a b facts file parent =
    let p = part_within facts file parent (take i xs) in
    let q = part_in facts file x parent in
    b facts file parent ∙ ap (λ l. l ++ flat_map spread_by q.sets) (a facts file parent)
    ∙ append_assoc (map names_of old) (flat_map spread_by p.sets) (flat_map spread_by q.sets)
    ∙ ap (λ l. map names_of old ++ l) (sym (flat_append spread_by p.sets q.sets))
    ∙ ap (λ l. map names_of old ++ flat_map spread_by l) (sym (sets_taken xs i x within item facts file parent))

pub names_none : (xs : List Selection) (old : List (Bor (List ℕ))) → xs ≡ [] → AddsNames (in_set xs) old old
names_none xs old empty facts file parent = rw empty (sym (append_end (map (λ n. n.now) old)))

pub sets_none : (xs : List Selection) (old : List SetNames) → xs ≡ [] → AddsSets (in_set xs) old old
sets_none xs old empty facts file parent = rw empty (sym (append_end (map names_of old)))

-- ---- the names of a selection

pub names_field : (x : Selection) (f : Field) (old : List (Bor (List ℕ))) → x ≡ s.Field f → AddsNames (in_selection x) old old
names_field x f old is facts file parent =
    sym (append_end (map (λ n. n.now) old))
    ∙ ap (λ (p : Part). map (λ n. n.now) old ++ p.names) (sym (ap (λ y. part_in facts file y parent) is ∙ part_field facts file f parent))

pub names_spread_one : (x : Selection) (f : Spread) (old new : List (Bor (List ℕ))) (n : Bor (List ℕ)) → x ≡ s.Spread f → n.now ≡ f.name.text → new ≡ old ++ n ∷ []
    → AddsNames (in_selection x) old new
names_spread_one x f old new n is same more facts file parent =
    ap (map (λ n. n.now)) more ∙ map_end (λ (n : Bor (List ℕ)). n.now) old n ∙ ap (λ t. map (λ n. n.now) old ++ t ∷ []) same
    ∙ ap (λ (p : Part). map (λ n. n.now) old ++ p.names) (sym (ap (λ y. part_in facts file y parent) is ∙ part_spread facts file f parent))

pub names_inline : (x : Selection) (f : InlineFragment) (ys : List Selection) (old new : List (Bor (List ℕ))) → x ≡ s.InlineFragment f → ys ≡ f.selections
    → AddsNames (in_set ys) old new → AddsNames (in_selection x) old new
names_inline x f ys old new is listed a facts file parent =
    let within = parent_within facts parent f.condition in
    a facts file within
    ∙ ap (λ l. map (λ n. n.now) old ++ (part_within facts file within l).names) listed
    ∙ ap (λ (p : Part). map (λ n. n.now) old ++ p.names) (sym (ap (λ y. part_in facts file y parent) is ∙ part_inline facts file f parent))

-- ---- the sets of a selection

-- the names of a set, as they are added
abbrev pub AddsOwn : List Selection → List SetNames → List SetNames → Type 0
AddsOwn ys old new = (facts : Facts) (file : List ℕ) (parent : Option (List ℕ))
    → map names_of new ≡ map names_of old ++ if_any (part_within facts file parent ys).names

pub own_none : (ys : List Selection) (names : List (Bor (List ℕ))) (old : List SetNames) → AddsNames (in_set ys) [] names → names ≡ [] → AddsOwn ys old old
own_none ys names old a none facts file parent =
    sym (append_end (map names_of old)) ∙ ap (λ l. map names_of old ++ if_any l) (sym (ap (map (λ n. n.now)) none) ∙ a facts file parent)

some_any : (names : List (Bor (List ℕ))) → (names ≡ [] → ⊥) → if_any (map (λ n. n.now) names) ≡ map (λ n. n.now) names ∷ []
some_any [] some = absurd (some refl)
some_any (n ∷ ns) some = refl

pub own_some : (ys : List Selection) (set : SetNames) (old new : List SetNames) → AddsNames (in_set ys) [] set.names.items → (set.names.items ≡ [] → ⊥)
    → new ≡ old ++ set ∷ [] → AddsOwn ys old new
own_some ys set old new a some more facts file parent =
    ap (map names_of) more ∙ map_end names_of old set
    ∙ ap (λ l. map names_of old ++ l) (sym (some_any set.names.items some))
    ∙ ap (λ l. map names_of old ++ if_any l) (a facts file parent)

set_spreads : (ys : List Selection) (facts : Facts) (file : List ℕ) (parent : Option (List ℕ))
    → flat_map spread_by (list_of (set_if (has_any ys) (part_within facts file parent ys))) ≡ if_any (part_within facts file parent ys).names
set_spreads [] facts file parent = refl
set_spreads (y ∷ ys) facts file parent = append_end (if_any (part_within facts file parent (y ∷ ys)).names)

pub sets_field : (x : Selection) (f : Field) (ys zs : List Selection) (old mid new : List SetNames) → x ≡ s.Field f → ys ≡ f.selections → zs ≡ f.selections
    → AddsSets (in_set ys) old mid → AddsOwn zs mid new → AddsSets (in_selection x) old new
sets_field x f ys zs old mid new is listed also a b facts file parent =
    let below = parent_below facts parent f.name.text in
    let p = part_within facts file below f.selections in
    let r = part_of_field (known_info facts file parent (written_field f)) (has_any f.selections) p in
    let own = list_of (set_if (has_any f.selections) p) in
    b facts file below
    ∙ ap (λ l. map names_of mid ++ if_any (part_within facts file below l).names) also
    ∙ ap (λ l. l ++ if_any p.names) (a facts file below)
    ∙ ap (λ l. (map names_of old ++ flat_map spread_by (part_within facts file below l).sets) ++ if_any p.names) listed
    ∙ append_assoc (map names_of old) (flat_map spread_by p.sets) (if_any p.names)
    ∙ ap (λ l. map names_of old ++ (flat_map spread_by p.sets ++ l)) (sym (set_spreads f.selections facts file below))
    ∙ ap (λ l. map names_of old ++ l) (sym (flat_append spread_by p.sets own))
    ∙ ap (λ (t : Part). map names_of old ++ flat_map spread_by t.sets) (sym (ap (λ y. part_in facts file y parent) is ∙ part_field facts file f parent))

pub sets_spread : (x : Selection) (f : Spread) (old : List SetNames) → x ≡ s.Spread f → AddsSets (in_selection x) old old
sets_spread x f old is facts file parent =
    sym (append_end (map names_of old))
    ∙ ap (λ (t : Part). map names_of old ++ flat_map spread_by t.sets) (sym (ap (λ y. part_in facts file y parent) is ∙ part_spread facts file f parent))

pub sets_inline : (x : Selection) (f : InlineFragment) (ys : List Selection) (old new : List SetNames) → x ≡ s.InlineFragment f → ys ≡ f.selections
    → AddsSets (in_set ys) old new → AddsSets (in_selection x) old new
sets_inline x f ys old new is listed a facts file parent =
    let within = parent_within facts parent f.condition in
    a facts file within
    ∙ ap (λ l. map names_of old ++ flat_map spread_by (part_within facts file within l).sets) listed
    ∙ ap (λ (t : Part). map names_of old ++ flat_map spread_by t.sets) (sym (ap (λ y. part_in facts file y parent) is ∙ part_inline facts file f parent))

-- ---- all selections of a set

pub names_all : (xs : List Selection) (i : ℕ) (old new : List (Bor (List ℕ))) → length xs ≤ i → AddsNames (in_set (take i xs)) old new → AddsNames (in_set xs) old new
names_all xs i old new le a = subst (λ l. AddsNames (in_set l) old new) (take_all i xs le) a

pub sets_all : (xs : List Selection) (i : ℕ) (old new : List SetNames) → length xs ≤ i → AddsSets (in_set (take i xs)) old new → AddsSets (in_set xs) old new
sets_all xs i old new le a = subst (λ l. AddsSets (in_set l) old new) (take_all i xs le) a

pub names_first : (xs : List Selection) (old new : List (Bor (List ℕ))) → old ≡ [] → AddsNames (in_set xs) old new → AddsNames (in_set xs) [] new
names_first xs old new empty a = subst (λ l. AddsNames (in_set xs) l new) empty a

pub sets_first : (ys zs xs : List Selection) (old mid new : List SetNames) → old ≡ [] → ys ≡ xs → zs ≡ xs → AddsSets (in_set ys) old mid → AddsOwn zs mid new
    → (facts : Facts) (file : List ℕ) (parent : Option (List ℕ)) → map names_of new ≡ names_in (part_within facts file parent xs)
sets_first ys zs xs old mid new empty one other a b facts file parent =
    let p = part_within facts file parent xs in
    b facts file parent
    ∙ ap (λ l. map names_of mid ++ if_any (part_within facts file parent l).names) other
    ∙ ap (λ l. l ++ if_any p.names) (a facts file parent ∙ ap (λ l. map names_of old ++ flat_map spread_by (part_within facts file parent l).sets) one ∙ ap (λ l. map names_of l ++ flat_map spread_by p.sets) empty)
    ∙ ap (λ l. flat_map spread_by p.sets ++ l) (sym (append_end (if_any p.names)))
    ∙ sym (flat_append spread_by p.sets (set_of p ∷ []))

pub of_operation : (d : Definition) (o o' : Operation) (ys : List Selection) (names : List (List (List ℕ))) → d.tree ≡ tree.Operation o → o' ≡ o → ys ≡ o'.selections
    → ((facts : Facts) (file : List ℕ) (parent : Option (List ℕ)) → names ≡ names_in (part_within facts file parent ys))
    → (facts : Facts) → names ≡ flat_map spread_by (sets_in facts d)
of_operation d o o' ys names is same listed a facts =
    let p = operation_part facts d.file o in
    a facts d.file (root_parent facts o.kind)
    ∙ ap (λ l. names_in (part_within facts d.file (root_parent facts o.kind) l)) (listed ∙ ap (λ (x : Operation). x.selections) same)
    ∙ ap (flat_map spread_by) (sym (append_end (sets_of p)))
    ∙ ap (λ t. flat_map spread_by (flat_map sets_of (list_of (tree_part facts d.file t)))) (sym is)

pub of_fragment : (d : Definition) (o o' : Fragment) (ys : List Selection) (names : List (List (List ℕ))) → d.tree ≡ tree.Fragment o → o' ≡ o → ys ≡ o'.selections
    → ((facts : Facts) (file : List ℕ) (parent : Option (List ℕ)) → names ≡ names_in (part_within facts file parent ys))
    → (facts : Facts) → names ≡ flat_map spread_by (sets_in facts d)
of_fragment d o o' ys names is same listed a facts =
    let p = fragment_part facts d.file o in
    a facts d.file (composite facts (Some o.condition.text))
    ∙ ap (λ l. names_in (part_within facts d.file (composite facts (Some o.condition.text)) l)) (listed ∙ ap (λ (x : Fragment). x.selections) same)
    ∙ ap (flat_map spread_by) (sym (append_end (sets_of p)))
    ∙ ap (λ t. flat_map spread_by (flat_map sets_of (list_of (tree_part facts d.file t)))) (sym is)
