-- How deep selections nest, through the fragments that they spread (GraphQL 2.8).
use Rattle.std.specs.Prelude.{◌≡◌, ℕ, suc, List, map, Contains}
use Rattle.gql_ast.specs.declared.executable.Field.{Field}
use Rattle.gql_ast.specs.declared.executable.InlineFragment.{InlineFragment}
use Rattle.gql_ast.specs.declared.executable.Selection.{Selection}
use Rattle.gql_ast.specs.declared.executable.Selection.TheVariants as s
use Rattle.gql_ast.specs.declared.executable.Spread.{Spread}
use Rattle.gql_collect.specs.Collection.{Collects, selections_below}
use Rattle.gql_collect.specs.Groups.{Group}
use Rattle.gql_collect.specs.Nodes.{FileSelection}
use Rattle.gql_collect.specs.Spreads.{own_selections}
use Rattle.gql_collect.specs.Unfolding.{Given}

-- A selection nests at most k deep: what a field, an inline fragment or the fragment of a spread
-- selects nests at most one less deep. Selections that lead to a cycle of fragments nest at no
-- depth.
pub data Nests (g : Given) : ℕ → Selection → Type 0 where
  of_field : {k : ℕ} {x : Selection} (f : Field) → x ≡ s.Field f
      → ((y : Selection) → Contains f.selections y → Nests g k y) → Nests g (suc k) x
  of_inline : {k : ℕ} {x : Selection} (i : InlineFragment) → x ≡ s.InlineFragment i
      → ((y : Selection) → Contains i.selections y → Nests g k y) → Nests g (suc k) x
  of_spread : {k : ℕ} {x : Selection} (r : Spread) → x ≡ s.Spread r
      → ((y : Selection) → Contains (own_selections g r.name.text) y → Nests g k y)
      → Nests g (suc k) x

-- all of these selections nest at most k deep
abbrev pub AllNest : Given → ℕ → List Selection → Type 0
AllNest g k xs = (x : Selection) → Contains xs x → Nests g k x

-- the selections, without their files
abbrev pub selections_of : List FileSelection → List Selection
selections_of xs = map (λ (x : FileSelection). x.selection) xs

-- the groups of selections, where what each group selects nests at most k deep
pub record NestedGroups (g : Given) (t : List ℕ) (k : ℕ) (xs : List FileSelection) : Type 0 where
  pub groups : List Group
  pub collects : Collects g t xs groups
  pub below : (group : Group) → Contains groups group
      → AllNest g k (selections_of (selections_below group.nodes))
