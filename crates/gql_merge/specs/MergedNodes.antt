-- The fields and selection sets of a definition, by which fields clash (GraphQL 5.3.2).
use Rattle.std.specs.Prelude.{ℕ, List, [], ◌∷◌, ◌++◌, flat_map, Bool, true, false, ◌&&◌, nat_eq, nat_lt, bytes_eq, Option, Some, None}
use Rattle.std.specs.declared.cmp.Ordering.{Ordering}
use Rattle.std.specs.declared.cmp.Ordering.TheVariants.{Less, Equal, Greater}
use Rattle.gql_ast.specs.FileMaps.{name_order}
use Rattle.gql_ast.specs.declared.definition.Definition.{Definition}
use Rattle.gql_ast.specs.declared.definition.Tree.{Tree}
use Rattle.gql_ast.specs.declared.definition.Tree.TheVariants as tree
use Rattle.gql_ast.specs.declared.executable.Fragment.{Fragment}
use Rattle.gql_ast.specs.declared.executable.Operation.{Operation}
use Rattle.gql_clashes.specs.Clashes.{Nodes}
use Rattle.gql_facts.specs.Nodes.{composite}
use Rattle.gql_facts.specs.OwnReads.{root_parent}
use Rattle.gql_facts.specs.Worlds.{Facts}
use Rattle.gql_facts.specs.declared.fact.Fact.{Fact}
use Rattle.gql_facts.specs.declared.fact.Fact.TheVariants as fact
use Rattle.gql_facts.specs.declared.fact.FragmentFact.{FragmentFact}
use Rattle.gql_facts.specs.declared.key.Key.TheVariants as key
use Rattle.gql_merge.specs.FieldNodes.{FieldInfo, FieldNode, SetNode, direct, names_spread}
use Rattle.gql_merge.specs.FieldSets.{Part, part_within, set_of, list_of}

-- ---- definitions

-- the part of an operation: all that it selects
abbrev pub operation_part : Facts → List ℕ → Operation → Part
operation_part facts file o = part_within facts file (root_parent facts o.kind) o.selections

-- the part of a fragment: all that it selects
abbrev pub fragment_part : Facts → List ℕ → Fragment → Part
fragment_part facts file f =
    part_within facts file (composite facts (Some f.condition.text)) f.selections

-- the part of a definition, or none for one of the type system
abbrev pub tree_part : Facts → List ℕ → Tree → Option Part
tree_part facts file (tree.Operation o) = Some (operation_part facts file o)
tree_part facts file (tree.Fragment f) = Some (fragment_part facts file f)
tree_part facts file _ = None

-- the sets within a part, and then its own
abbrev pub sets_of : Part → List SetNode
sets_of p = p.sets ++ set_of p ∷ []

-- all selection sets of a definition: its own, and that of each field at any depth
abbrev pub sets_in : Facts → Definition → List SetNode
sets_in facts d = flat_map sets_of (list_of (tree_part facts d.file d.tree))

-- ---- fragments

-- the selection set of a fragment
abbrev pub fragment_set : Facts → FragmentFact → SetNode
fragment_set facts g = set_of (fragment_part facts g.file g.fragment)

-- the selection set of the fragment that a fact gives
abbrev pub sets_by : Facts → Fact → List SetNode
sets_by facts (fact.Fragment g) = fragment_set facts g ∷ []
sets_by facts _ = []

-- the selection set of the fragment of this name
abbrev pub sets_named : Facts → List ℕ → List SetNode
sets_named facts n = sets_by facts (facts (key.FragmentOf n))

-- ---- fields

-- whether two fields are one: at one place in one file
abbrev pub is_one : FieldNode → FieldNode → Bool
is_one f g = bytes_eq f.its.file g.its.file
    && nat_eq f.its.start.offset g.its.start.offset

-- the order by files first, and within one file by this
abbrev pub is_before_by : Ordering → Bool → Bool
is_before_by Less within = true
is_before_by Equal within = within
is_before_by Greater within = false

-- whether a field is before another: by the names of the files, then by the places
abbrev pub is_before : FieldInfo → FieldInfo → Bool
is_before i j = is_before_by (name_order i.file j.file) (nat_lt i.start.offset j.start.offset)

-- what the merging of fields needs to know of them
abbrev pub nodes : Facts → Nodes FieldNode SetNode
nodes facts = record {
  direct = direct;
  spreads = λ s. flat_map (sets_named facts) (names_spread s);
  below = λ f. f.below;
  is_one = is_one;
  share_name = λ f g. bytes_eq f.its.response_name g.its.response_name;
  share_parent = λ f g. bytes_eq f.its.parent g.its.parent;
  of_object = λ f. f.its.of_object;
  share_call = λ f g. bytes_eq f.its.call g.its.call;
  share_shape = λ f g. bytes_eq f.its.shape g.its.shape;
}
