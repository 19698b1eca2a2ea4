-- The groups of selections that are fields apart from each other.
use Rattle.std.proofs.Common.{◌≡◌, ◌&&◌, ◌<◌, ℕ, List, [], ◌∷◌, ◌++◌, Bool, true, false, not, map, filter, bytes_eq, nat_eq, if◌then◌else◌, flat_map, refl, sym, ap, ◌∙◌, subst, arith}
use Rattle.std.proofs.lemmas.Bool.{ne_eqb}
use Rattle.std.proofs.lemmas.Slice.Eq.{bytes_eq-Decides}
use Rattle.std.specs.Cmp.Lexicographic.{nat_list_eq_equiv}
use Rattle.gql_ast.specs.declared.executable.Field.{Field}
use Rattle.gql_ast.specs.declared.executable.InlineFragment.{InlineFragment}
use Rattle.gql_ast.specs.declared.executable.Selection.{Selection, out-Selection}
use Rattle.gql_ast.specs.declared.executable.Selection.TheOpen.{Selection-F}
use Rattle.gql_ast.specs.declared.text.Name.{Name}
use Rattle.gql_collect.specs.Alone.{alone, alone_at, groups_alone}
use Rattle.gql_collect.specs.Collection.{AreGroups, groups_from}
use Rattle.gql_collect.specs.Conditions.{is_left_out}
use Rattle.gql_collect.specs.Groups.{firsts, group, groups_of, is_same_field, key_of, response_name, start_of}
use Rattle.gql_collect.specs.Nodes.{FieldNode, in_file, node, selections}
use Rattle.gql_collect.proofs.PlainFields.{ArePlain, IsApart, IsPlain}
use Rattle.gql_collect.specs.Unfolding.{Given, Unfolds, kept, nothing, part, part_at}
use Rattle.gql_collect.proofs.Walking.{one_unfolding}

-- ---- fields apart from each other

record IsAfterNode (name : Name) (n : FieldNode) : Type 0 where
  later : name.place.offset < start_of n
  other : bytes_eq name.text (key_of n) ≡ false

abbrev AllAfter : Name → List FieldNode → Type 0
AllAfter name [] = Unit {0}
AllAfter name (n ∷ ns) = IsAfterNode name n × AllAfter name ns

abbrev AreApart : List FieldNode → Type 0
AreApart [] = Unit {0}
AreApart (n ∷ ns) = AllAfter (response_name n.field) ns × AreApart ns

and_false : (a b : Bool) → b ≡ false → a && b ≡ false
and_false true b e = e
and_false false b e = refl

apart_at : (a b : ℕ) → b < a → nat_eq a b ≡ false
apart_at a b h = ne_eqb a b (λ e. omega (arith, h, e))

same_itself : (k : List ℕ) → bytes_eq k k ≡ true
same_itself k = (bytes_eq-Decides k k).1 refl

swapped : (k q : List ℕ) → bytes_eq k q ≡ false → bytes_eq q k ≡ false
swapped k q e = sym (nat_list_eq_equiv.symm k q) ∙ e

-- none of them is the same field
none_same : (n : FieldNode) (ms : List FieldNode) → AllAfter (response_name n.field) ms → filter (λ m. not (is_same_field m n)) ms ≡ ms
none_same n [] h = refl
none_same n (m ∷ ms) h =
    let e : is_same_field m n ≡ false = and_false (bytes_eq m.file n.file) (nat_eq (start_of m) (start_of n)) (apart_at (start_of m) (start_of n) h.0.later) in
    rw e (ap (λ r. m ∷ r) (none_same n ms h.1))

all_firsts : (ns : List FieldNode) → AreApart ns → firsts is_same_field ns ≡ ns
all_firsts [] h = refl
all_firsts (n ∷ ns) h = ap (λ r. n ∷ filter (λ m. not (is_same_field m n)) r) (all_firsts ns h.1) ∙ ap (λ r. n ∷ r) (none_same n ns h.0)

-- none of them has the same name
other_keys : (name : Name) (ms : List FieldNode) → AllAfter name ms → filter (λ k. not (bytes_eq k name.text)) (map key_of ms) ≡ map key_of ms
other_keys name [] h = refl
other_keys name (m ∷ ms) h = rw (swapped name.text (key_of m) h.0.other) (ap (λ r. key_of m ∷ r) (other_keys name ms h.1))

all_keys : (ns : List FieldNode) → AreApart ns → firsts bytes_eq (map key_of ns) ≡ map key_of ns
all_keys [] h = refl
all_keys (n ∷ ns) h = ap (λ r. key_of n ∷ filter (λ k. not (bytes_eq k (key_of n))) r) (all_keys ns h.1)
    ∙ ap (λ r. key_of n ∷ r) (other_keys (response_name n.field) ns h.0)

no_others : (name : Name) (ms : List FieldNode) → AllAfter name ms → filter (λ m. bytes_eq name.text (key_of m)) ms ≡ []
no_others name [] h = refl
no_others name (m ∷ ms) h = rw h.0.other (no_others name ms h.1)

first_alone : (n : FieldNode) (ns : List FieldNode) → AllAfter (response_name n.field) ns → group (n ∷ ns) (key_of n) ≡ alone n
first_alone n ns h = rw (same_itself (key_of n)) (ap (λ ms. record { key = key_of n; nodes = n ∷ ms }) (no_others (response_name n.field) ns h))

-- the groups of the later ones
later_groups : (n : FieldNode) (ns ms : List FieldNode) → AllAfter (response_name n.field) ms → map (group (n ∷ ns)) (map key_of ms) ≡ map (group ns) (map key_of ms)
later_groups n ns [] h = refl
later_groups n ns (m ∷ ms) h = rw (swapped (key_of n) (key_of m) h.0.other) (ap (λ gs. group ns (key_of m) ∷ gs) (later_groups n ns ms h.1))

each_alone : (ns : List FieldNode) → AreApart ns → map (group ns) (map key_of ns) ≡ map alone ns
each_alone [] h = refl
each_alone (n ∷ ns) h = ap (λ x. x ∷ map (group (n ∷ ns)) (map key_of ns)) (first_alone n ns h.0)
    ∙ ap (λ gs. alone n ∷ gs) (later_groups n ns ns h.0 ∙ each_alone ns h.1)

groups_apart : (ns : List FieldNode) → AreApart ns → groups_from ns ≡ map alone ns
groups_apart ns h = ap groups_of (all_firsts ns h) ∙ ap (map (group ns)) (all_keys ns h) ∙ each_alone ns h

-- ---- the fields of selections

module _ (file : List ℕ) where
  abbrev nodes_at : Selection-F Selection Field InlineFragment → List FieldNode
  nodes_at (Selection-F.Field f) = record { file = file; field = f } ∷ []
  nodes_at (Selection-F.Spread x) = []
  nodes_at (Selection-F.InlineFragment i) = []

  abbrev field_nodes : List Selection → List FieldNode
  field_nodes xs = flat_map (λ x. nodes_at (out-Selection x)) xs

  at_field : (x : Selection) (f : Field) (xs : List Selection) → out-Selection x ≡ Selection-F.Field f → field_nodes (x ∷ xs) ≡ record { file = file; field = f } ∷ field_nodes xs
  at_field x f xs e = ap (λ ns. ns ++ field_nodes xs) (ap nodes_at e)

  all_after : (name : Name) (xs : List Selection) → IsApart name xs → AllAfter name (field_nodes xs)
  all_after name [] h = tt
  all_after name (x ∷ xs) h = subst (AllAfter name) (sym (at_field x h.0.field xs h.0.is)) (record { later = h.0.later; other = h.0.other }, all_after name xs h.1)

  are_apart : (xs : List Selection) → ArePlain xs → AreApart (field_nodes xs)
  are_apart [] h = tt
  are_apart (x ∷ xs) h = subst AreApart (sym (at_field x h.0.field xs h.0.is)) (all_after (response_name h.0.field) xs h.0.apart, are_apart xs h.1)

  groups_at : (x : Selection) (f : Field) (xs : List Selection) → out-Selection x ≡ Selection-F.Field f
      → groups_alone (in_file file (x ∷ xs)) ≡ alone (record { file = file; field = f }) ∷ groups_alone (in_file file xs)
  groups_at x f xs e = ap (λ gs. gs ++ groups_alone (in_file file xs)) (ap (alone_at file) e)

  alone_are : (xs : List Selection) → ArePlain xs → groups_alone (in_file file xs) ≡ map alone (field_nodes xs)
  alone_are [] h = refl
  alone_are (x ∷ xs) h = groups_at x h.0.field xs h.0.is
      ∙ ap (λ gs. alone (record { file = file; field = h.0.field }) ∷ gs) (alone_are xs h.1)
      ∙ ap (map alone) (sym (at_field x h.0.field xs h.0.is))

  module _ (g : Given) (t : List ℕ) where
    plain_part : (x : Selection) (rest : List Selection) (h : IsPlain x rest) → part g t (record { file = file; selection = x }) ≡ node (record { file = file; field = h.field })
    plain_part x rest h = ap (part_at g t file) h.is
        ∙ ap (λ b. if b then selections [] else node (record { file = file; field = h.field })) (ap (is_left_out g.values) h.no_directives)

    unfolds : (xs : List Selection) → ArePlain xs → Unfolds g t (in_file file xs) (field_nodes xs)
    unfolds [] h = nothing
    unfolds (x ∷ xs) h = subst (Unfolds g t (in_file file (x ∷ xs))) (sym (at_field x h.0.field xs h.0.is)) (kept (plain_part x xs h.0) (unfolds xs h.1))

    pub plain_groups : (xs : List Selection) → ArePlain xs → AreGroups g t (in_file file xs) (groups_alone (in_file file xs))
    plain_groups xs h = λ others c. alone_are xs h ∙ sym (groups_apart (field_nodes xs) (are_apart xs h))
        ∙ ap groups_from (one_unfolding g t (unfolds xs h) c.unfolds) ∙ sym c.are
