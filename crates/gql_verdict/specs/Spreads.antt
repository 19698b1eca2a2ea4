-- The names of fragments that are spread in a definition (GraphQL 2.8), in their order.
use Rattle.std.specs.Prelude.{ℕ, List, [], ◌∷◌, flat_map}
use Rattle.gql_ast.specs.declared.definition.Definition.{Definition}
use Rattle.gql_ast.specs.declared.definition.Tree.{Tree}
use Rattle.gql_ast.specs.declared.definition.Tree.TheVariants as tree
use Rattle.gql_ast.specs.declared.executable.Selection.{Selection, fold-Selection}
use Rattle.gql_ast.specs.declared.executable.Selection.TheOpen.{Selection-F, Field-F, InlineFragment-F}

-- names of fragments
abbrev pub Names : Type 0
Names = List (List ℕ)

-- the names in all parts
abbrev pub all : List Names → Names
all = flat_map (λ names. names)

-- the names in a selection of this form, from those in a field or an inline fragment
abbrev pub spreads_at : Selection-F Names Names Names → Names
spreads_at (Selection-F.Field names) = names
spreads_at (Selection-F.Spread x) = x.name.text ∷ []
spreads_at (Selection-F.InlineFragment names) = names

-- the names in what a field selects
abbrev pub below_field : Field-F Names Names Names → Names
below_field f = all f.selections

-- the names in an inline fragment
abbrev pub within_inline : InlineFragment-F Names Names Names → Names
within_inline i = all i.selections

-- the names in a selection, and in what it selects
unfoldable pub selection_spreads : Selection → Names
selection_spreads = fold-Selection Names Names Names spreads_at below_field within_inline

-- the names in a selection set
abbrev pub set_spreads : List Selection → Names
set_spreads = flat_map selection_spreads

-- the names in a definition; one of the type system has none
abbrev pub tree_spreads : Tree → Names
tree_spreads (tree.Operation o) = set_spreads o.selections
tree_spreads (tree.Fragment f) = set_spreads f.selections
tree_spreads _ = []

-- the names in all these definitions
abbrev pub spreads_in : List Definition → Names
spreads_in = flat_map (λ (d : Definition). tree_spreads d.tree)
