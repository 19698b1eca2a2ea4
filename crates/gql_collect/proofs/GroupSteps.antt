-- One more field in the groups, beside a write to the map.
use Rattle.std.proofs.Common.{◌≡◌, ℕ, ◌+◌, ◌<◌, length, get_or, take, List, [], ◌∷◌, ◌++◌, Bool, Option, None, Some, bytes_eq, refl, sym, ap, ◌∙◌, append_assoc, subst, Bor, arith}
use Rattle.std.proofs.lemmas.List.{take_more}
use Rattle.std.specs.Map.{lookup, set_value}
use Rattle.indexmap.specs.IndexMap.{insert_entry}
use Rattle.gql_collect.specs.Borrowed.{all_selections, node_of, selections_of}
use Rattle.gql_collect.specs.BorrowedGroups.{groups_in, nodes_in, others_of}
use Rattle.gql_collect.specs.Collection.{selections_below}
use Rattle.gql_collect.specs.Groups.{key_of}
use Rattle.gql_collect.specs.Nodes.{FieldNode, in_file}
use Rattle.gql_collect.specs.Putting.{put}
use Rattle.gql_collect.specs.declared.group.Group.{Group}
use Rattle.gql_collect.specs.declared.node.FieldNode.{FieldNode as Node}
use Rattle.gql_collect.specs.declared.node.SelectionSet.{SelectionSet}

abbrev pub Entry : Type 0
Entry = Bor (List ℕ) × Group

abbrev pub test : List ℕ → Bor (List ℕ) → Bool
test k q = bytes_eq k q.now

-- ---- the other fields of a group

pub others_more : (ns : List (Option Node)) (n : Node) → others_of (ns ++ Some n ∷ []) ≡ others_of ns ++ node_of n ∷ []
others_more [] n = refl
others_more (None ∷ ns) n = others_more ns n
others_more (Some m ∷ ns) n = ap (λ r. node_of m ∷ r) (others_more ns n)

pub others_none : (ns : List (Option Node)) → others_of (ns ++ None ∷ []) ≡ others_of ns
others_none [] = refl
others_none (None ∷ ns) = others_none ns
others_none (Some m ∷ ns) = ap (λ r. node_of m ∷ r) (others_none ns)

pub others_append : (ns ms : List (Option Node)) → others_of (ns ++ ms) ≡ others_of ns ++ others_of ms
others_append [] ms = refl
others_append (None ∷ ns) ms = others_append ns ms
others_append (Some m ∷ ns) ms = ap (λ r. node_of m ∷ r) (others_append ns ms)

pub below_append : (ns ms : List FieldNode) → selections_below (ns ++ ms) ≡ selections_below ns ++ selections_below ms
below_append [] ms = refl
below_append (n ∷ ns) ms = ap (λ r. in_file n.file n.field.selections ++ r) (below_append ns ms)
    ∙ sym (append_assoc (in_file n.file n.field.selections) (selections_below ns) (selections_below ms))

pub all_append : (xs ys : List SelectionSet) → all_selections (xs ++ ys) ≡ all_selections xs ++ all_selections ys
all_append [] ys = refl
all_append (x ∷ xs) ys = ap (λ r. selections_of x ++ r) (all_append xs ys)
    ∙ sym (append_assoc (selections_of x) (all_selections xs) (all_selections ys))

-- one more of the others
pub below_more : (first : FieldNode) (ns : List (Option Node)) (n : Option Node)
    → selections_below (first ∷ others_of (ns ++ n ∷ []))
    ≡ selections_below (first ∷ others_of ns) ++ selections_below (others_of (n ∷ []))
below_more first ns n = ap (λ os. selections_below (first ∷ os)) (others_append ns (n ∷ []))
    ∙ below_append (first ∷ others_of ns) (others_of (n ∷ []))

-- the same, in a loop
pub below_step : (first : FieldNode) (items : List (Option Node)) (i : ℕ) (item : Option Node) (old new : List SelectionSet)
    → i < length items → get_or items i item ≡ item
    → all_selections old ≡ selections_below (first ∷ others_of (take i items))
    → all_selections new ≡ all_selections old ++ selections_below (others_of (item ∷ []))
    → all_selections new ≡ selections_below (first ∷ others_of (take (i + 1) items))
below_step first items i item old new within is before after =
    rw (take_more items i item within, is)
    (after ∙ ap (λ l. l ++ selections_below (others_of (item ∷ []))) before ∙ sym (below_more first (take i items) item))

-- ---- a write to the map

pub found : (n : Node) (es : List Entry) (v w : Group) → lookup (test (key_of (node_of n))) es ≡ Some v
    → nodes_in w ≡ nodes_in v ++ node_of n ∷ []
    → groups_in (set_value (test (key_of (node_of n))) es w) ≡ put (groups_in es) (node_of n)
found n [] v w h e = absurd (cc h)
found n (x ∷ es) v w h e = grind (arith, found n es v w)

pub absent : (k : Bor (List ℕ)) (n : Node) (es : List Entry) (v : Group) → k.now ≡ key_of (node_of n)
    → lookup (test k.now) es ≡ None → nodes_in v ≡ node_of n ∷ []
    → groups_in (insert_entry (λ p q. bytes_eq p.now q.now) es k v) ≡ put (groups_in es) (node_of n)
absent k n [] v s h e = grind (arith)
absent k n (x ∷ es) v s h e = grind (arith, absent k n es v)

-- the same, where one more field was pushed
pub found_at : (k : List ℕ) (n : Node) (es : List Entry) (v w : Group) → k ≡ key_of (node_of n)
    → lookup (test k) es ≡ Some v → w.first ≡ v.first → w.others.items ≡ v.others.items ++ Some n ∷ []
    → groups_in (set_value (test k) es w) ≡ put (groups_in es) (node_of n)
found_at k n es v w key h f e =
    ap (λ q. groups_in (set_value (test q) es w)) key
    ∙ found n es v w (subst (λ q. lookup (test q) es ≡ Some v) key h)
    (ap (λ m. node_of m ∷ others_of w.others.items) f
    ∙ ap (λ os. node_of v.first ∷ os) (ap others_of e ∙ others_more v.others.items n))
