-- The groups of fields of a selection set, for an object of some type (GraphQL 6.3.2,
-- CollectFields). A field that the set reaches twice counts at the first place only, so that each
-- fragment counts once in a set.
use Rattle.std.specs.Prelude.{◌≡◌, ℕ, List, flat_map}
use Rattle.gql_collect.specs.Groups.{Group, firsts, groups_of, is_same_field}
use Rattle.gql_collect.specs.Nodes.{FileSelection, FieldNode, in_file}
use Rattle.gql_collect.specs.Unfolding.{Given, Unfolds}

-- the groups of the fields that selections unfold into
abbrev pub groups_from : List FieldNode → List Group
groups_from ns = groups_of (firsts is_same_field ns)

-- these selections have these groups
pub record Collects (g : Given) (t : List ℕ) (xs : List FileSelection) (groups : List Group)
    : Type 0 where
  pub nodes : List FieldNode
  pub unfolds : Unfolds g t xs nodes
  pub are : groups ≡ groups_from nodes

-- these are the groups of the selections, if the selections have groups
abbrev pub AreGroups : Given → List ℕ → List FileSelection → List Group → Type 0
AreGroups g t xs groups = (others : List Group) → Collects g t xs others → groups ≡ others

-- the selections of the sets of these fields, one set after the other (GraphQL 6.4.3,
-- MergeSelectionSets)
abbrev pub selections_below : List FieldNode → List FileSelection
selections_below ns = flat_map (λ (n : FieldNode). in_file n.file n.field.selections) ns
