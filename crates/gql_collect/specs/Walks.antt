-- Helper definitions for private contracts: a walk over selections that enters each fragment once.
use Rattle.std.specs.Prelude.{◌≡◌, ◌+◌, ◌≤◌, ℕ, List, [], ◌∷◌, ◌++◌, map, Bool, true, false, bytes_eq, if◌then◌else◌}
use Rattle.std.specs.List.{list_any}
use Rattle.std.proofs.Common.{ap, sym, ◌∙◌}
use Rattle.gql_ast.specs.declared.executable.Field.{Field}
use Rattle.gql_ast.specs.declared.executable.InlineFragment.{InlineFragment}
use Rattle.gql_ast.specs.declared.executable.Selection.{Selection, fold-Selection}
use Rattle.gql_ast.specs.declared.executable.Selection.TheFolds.{fold-roll-Selection, fold_out-InlineFragment}
use Rattle.gql_ast.specs.declared.executable.Selection.TheOpen.{Selection-F, Field-F, InlineFragment-F}
use Rattle.gql_ast.specs.declared.executable.Selection.TheVariants as s
use Rattle.gql_ast.specs.declared.executable.Spread.{Spread}
use Rattle.gql_facts.specs.declared.fact.FragmentFact.{FragmentFact}
use Rattle.gql_collect.specs.Groups.{is_same_field}
use Rattle.gql_collect.specs.Nodes.{FileSelection, FieldNode, node, selections}
use Rattle.gql_collect.specs.Unfolding.{Given, part, held}
use Rattle.gql_collect.specs.declared.node.SelectionSet.{SelectionSet}

-- whether a name is among these
abbrev pub is_in : List ℕ → List (List ℕ) → Bool
is_in name names = list_any (bytes_eq name) names

-- the sum of these numbers
abbrev pub total : List ℕ → ℕ
total [] = 0
total (n ∷ ns) = n + total ns

-- ---- how large selections are

-- the size of a selection of this form: two for each selection that is not below a field
abbrev pub size_at : Selection-F ℕ ℕ ℕ → ℕ
size_at (Selection-F.Field below) = 2
size_at (Selection-F.Spread x) = 2
size_at (Selection-F.InlineFragment below) = below + 2

-- the size of a field; what it selects does not count
abbrev pub size_of_field : Field-F ℕ ℕ ℕ → ℕ
size_of_field f = 2

-- the size of what an inline fragment selects
abbrev pub size_of_inline : InlineFragment-F ℕ ℕ ℕ → ℕ
size_of_inline i = total i.selections

-- the size of a selection, by which a walk ends
unfoldable pub size : Selection → ℕ
size = fold-Selection ℕ ℕ ℕ size_at size_of_field size_of_inline

-- the size of these selections together
abbrev pub sizes : List Selection → ℕ
sizes xs = total (map size xs)

pub size_field : (f : Field) → size (s.Field f) ≡ 2
unfolding size
size_field f = ap size (sym (s.rolls-Field f))
    ∙ fold-roll-Selection ℕ ℕ ℕ size_at size_of_field size_of_inline (Selection-F.Field f)

pub size_spread : (x : Spread) → size (s.Spread x) ≡ 2
unfolding size
size_spread x = ap size (sym (s.rolls-Spread x))
    ∙ fold-roll-Selection ℕ ℕ ℕ size_at size_of_field size_of_inline (Selection-F.Spread x)

pub size_inline : (i : InlineFragment) → size (s.InlineFragment i) ≡ sizes i.selections + 2
unfolding size
size_inline i = ap size (sym (s.rolls-InlineFragment i))
    ∙ fold-roll-Selection ℕ ℕ ℕ size_at size_of_field size_of_inline (Selection-F.InlineFragment i)
    ∙ ap (λ n. n + 2) (fold_out-InlineFragment ℕ ℕ ℕ size_at size_of_field size_of_inline i)

-- the size of the fragments whose names are not among these
abbrev pub left : List FragmentFact → List (List ℕ) → ℕ
left fragments names = total (map (λ (f : FragmentFact).
    if is_in f.fragment.name.text names then 0 else sizes f.fragment.selections) fragments)

-- the size of a set that is still to be visited
abbrev pub set_size : SelectionSet → ℕ
set_size s = sizes s.selections.now + 1

-- the size of all that is left of a walk: the sets that are still to be visited, and the fragments
-- that it may still enter
abbrev pub work : List FragmentFact → List SelectionSet → List (List ℕ) → ℕ
work fragments pending names = total (map set_size pending) + left fragments names

-- ---- one selection

-- the size of these selections together
abbrev pub sizes_in : List FileSelection → ℕ
sizes_in xs = total (map (λ (x : FileSelection). size x.selection) xs)

-- A walk has visited the selection x: these are the names of the fragments that it has entered and
-- the fields that it has met by then, and it is to visit these selections next.
pub data Visits (g : Given) (t : List ℕ) (x : FileSelection)
    (names : List (List ℕ)) (fields : List FieldNode)
    : List (List ℕ) → List FieldNode → List FileSelection → Type 0 where
  keeps : {n : FieldNode} → part g t x ≡ node n
      → Visits g t x names fields names
      (if list_any (is_same_field n) fields then fields else fields ++ n ∷ []) []
  opens : {xs : List FileSelection}
      → part g t x ≡ selections xs → sizes_in xs + 2 ≤ size x.selection
      → Visits g t x names fields names fields xs
  enters : (name : List ℕ) → part g t x ≡ selections (held g t name) → is_in name names ≡ false
      → Visits g t x names fields (names ++ name ∷ []) fields (held g t name)
  passes : (name : List ℕ) → part g t x ≡ selections (held g t name) → is_in name names ≡ true
      → Visits g t x names fields names fields []
