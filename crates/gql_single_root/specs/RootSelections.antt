-- Helper definitions for private contracts: the fields and the spreads at the root of a selection
-- set, without those of the fragments that are spread.
use Rattle.std.specs.Prelude.{◌≡◌, ◌⊎◌, ℕ, List, Bool, true, false, Contains}
use Rattle.gql_ast.specs.declared.executable.Field.{Field}
use Rattle.gql_ast.specs.declared.executable.InlineFragment.{InlineFragment}
use Rattle.gql_ast.specs.declared.executable.Selection.{Selection, out-Selection}
use Rattle.gql_ast.specs.declared.executable.Selection.TheOpen.{Selection-F}
use Rattle.gql_ast.specs.declared.executable.Selection.TheVariants as selection
use Rattle.gql_facts.specs.Worlds.{Facts}
use Rattle.gql_single_root.specs.V30SingleRootField.{stays, applies}

-- whether a selection of this form is a field or a spread, and stays
abbrev pub is_kept_at : Selection-F Selection Field InlineFragment → Bool
is_kept_at (Selection-F.Field f) = stays f.directives
is_kept_at (Selection-F.Spread x) = stays x.directives
is_kept_at (Selection-F.InlineFragment i) = false

-- whether a selection is a field or a spread, and stays
abbrev pub is_kept : Selection → Bool
is_kept y = is_kept_at (out-Selection y)

-- a field or a spread that stays, in the set itself or in an inline fragment
pub data IsAtRootOf (facts : Facts) (root : List ℕ) : List Selection → Selection → Type 0 where
  own : {set : List Selection} {y : Selection} → Contains set y → is_kept y ≡ true
      → IsAtRootOf facts root set y
  inside : {set : List Selection} {i : InlineFragment} {y : Selection}
      → Contains set (selection.InlineFragment i) → stays i.directives ≡ true
      → applies facts root i.condition ≡ true → IsAtRootOf facts root i.selections y
      → IsAtRootOf facts root set y

-- the new list has what the old one has and what satisfies P, and nothing else
pub record Adds {A : Type 0} (P : A → Type 0) (old new : List A) : Type 0 where
  pub kept : (x : A) → Contains old x → Contains new x
  pub has : (x : A) → P x → Contains new x
  pub from : (x : A) → Contains new x → Contains old x ⊎ P x
