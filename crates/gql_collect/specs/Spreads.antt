-- The fragments that selections spread (GraphQL 2.8), at any depth, and those that these spread in
-- turn.
use Rattle.std.specs.Prelude.{◌≡◌, ℕ, List, [], ◌∷◌, ◌++◌, map, flat_map, Option, Some, None, refl, Contains}
use Rattle.std.proofs.Common.{ap, sym, ◌∙◌}
use Rattle.gql_ast.specs.declared.executable.Field.{Field}
use Rattle.gql_ast.specs.declared.executable.InlineFragment.{InlineFragment}
use Rattle.gql_ast.specs.declared.executable.Selection.{Selection, fold-Selection}
use Rattle.gql_ast.specs.declared.executable.Selection.TheFolds.{fold-roll-Selection, fold_out-Field, fold_out-InlineFragment}
use Rattle.gql_ast.specs.declared.executable.Selection.TheOpen.{Selection-F, Field-F, InlineFragment-F}
use Rattle.gql_ast.specs.declared.executable.Selection.TheVariants as s
use Rattle.gql_ast.specs.declared.executable.Spread.{Spread}
use Rattle.gql_facts.specs.declared.fact.FragmentFact.{FragmentFact}
use Rattle.gql_collect.specs.Unfolding.{Given, fragment_named}

-- ---- the names that a selection spreads

-- names of fragments
abbrev pub Names : Type 0
Names = List (List ℕ)

-- the names in a selection of this form, from those in a field or an inline fragment
abbrev pub names_at : Selection-F Names Names Names → Names
names_at (Selection-F.Field below) = below
names_at (Selection-F.Spread x) = x.name.text ∷ []
names_at (Selection-F.InlineFragment below) = below

-- the names in what a field selects
abbrev pub names_of_field : Field-F Names Names Names → Names
names_of_field f = flat_map (λ names. names) f.selections

-- the names in an inline fragment
abbrev pub names_of_inline : InlineFragment-F Names Names Names → Names
names_of_inline i = flat_map (λ names. names) i.selections

-- the names of the fragments that a selection spreads, below its fields too
unfoldable pub spreads : Selection → Names
spreads = fold-Selection Names Names Names names_at names_of_field names_of_inline

-- the names of the fragments that these selections spread
abbrev pub spreads_of : List Selection → Names
spreads_of xs = flat_map spreads xs

all_of : (f : Selection → Names) (xs : List Selection)
    → flat_map (λ names. names) (map f xs) ≡ flat_map f xs
all_of f [] = refl
all_of f (x ∷ xs) = ap (λ r. f x ++ r) (all_of f xs)

pub spreads_spread : (x : Spread) → spreads (s.Spread x) ≡ x.name.text ∷ []
unfolding spreads
spreads_spread x = ap spreads (sym (s.rolls-Spread x))
    ∙ fold-roll-Selection Names Names Names names_at names_of_field names_of_inline
    (Selection-F.Spread x)

pub spreads_field : (f : Field) → spreads (s.Field f) ≡ spreads_of f.selections
unfolding spreads
spreads_field f = ap spreads (sym (s.rolls-Field f))
    ∙ fold-roll-Selection Names Names Names names_at names_of_field names_of_inline
    (Selection-F.Field f)
    ∙ fold_out-Field Names Names Names names_at names_of_field names_of_inline f
    ∙ all_of spreads f.selections

pub spreads_inline : (i : InlineFragment) → spreads (s.InlineFragment i) ≡ spreads_of i.selections
unfolding spreads
spreads_inline i = ap spreads (sym (s.rolls-InlineFragment i))
    ∙ fold-roll-Selection Names Names Names names_at names_of_field names_of_inline
    (Selection-F.InlineFragment i)
    ∙ fold_out-InlineFragment Names Names Names names_at names_of_field names_of_inline i
    ∙ all_of spreads i.selections

-- ---- what they lead to

-- the selections of a fragment, if it is defined
abbrev pub selections_in : Option FragmentFact → List Selection
selections_in None = []
selections_in (Some f) = f.fragment.selections

-- the selections of the fragment of a name
abbrev pub own_selections : Given → List ℕ → List Selection
own_selections g n = selections_in (fragment_named g n)

-- The names that selections spread, those that the fragments of these names spread, and so on.
pub data LeadsTo (g : Given) (xs : List Selection) : List ℕ → Type 0 where
  spread : {n : List ℕ} → Contains (spreads_of xs) n → LeadsTo g xs n
  further : {m n : List ℕ} → LeadsTo g xs m → Contains (spreads_of (own_selections g m)) n
      → LeadsTo g xs n

-- no fragment that the selections lead to leads back to itself (GraphQL 5.5.2.2)
abbrev pub NoCycles : Given → List Selection → Type 0
NoCycles g xs = (n : List ℕ) → LeadsTo g xs n → LeadsTo g (own_selections g n) n → ⊥
