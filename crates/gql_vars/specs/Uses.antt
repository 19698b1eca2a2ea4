-- The uses of variables (GraphQL 2.10): in the arguments of fields and of applied directives, at
-- any depth of their values. The directives of a variable definition are constant: they have none.
use Rattle.std.specs.Prelude.{ℕ, List, [], ◌∷◌, ◌++◌, flat_map, Contains}
use Rattle.gql_text.specs.declared.place.Place.{Place}
use Rattle.gql_ast.specs.declared.definition.Definition.{Definition}
use Rattle.gql_ast.specs.declared.definition.Tree.{Tree}
use Rattle.gql_ast.specs.declared.definition.Tree.TheVariants as tree
use Rattle.gql_ast.specs.declared.executable.Fragment.{Fragment}
use Rattle.gql_ast.specs.declared.executable.Operation.{Operation}
use Rattle.gql_ast.specs.declared.executable.Selection.{Selection, fold-Selection}
use Rattle.gql_ast.specs.declared.executable.Selection.TheOpen.{Selection-F, Field-F, InlineFragment-F}
use Rattle.gql_ast.specs.declared.literal.Argument.{Argument}
use Rattle.gql_ast.specs.declared.literal.Directive.{Directive}
use Rattle.gql_ast.specs.declared.literal.Literal.{Literal, fold-Literal}
use Rattle.gql_ast.specs.declared.literal.Literal.TheOpen.{Literal-F, ObjectField-F}
use Rattle.gql_facts.specs.Reads.{Reaches}
use Rattle.gql_facts.specs.Worlds.{Facts}
use Rattle.gql_facts.specs.declared.fact.FragmentFact.{FragmentFact}

-- a use: the file, the place of its `$`, and the name of the variable
pub record Use : Type 0 where
  pub file : List ℕ
  pub place : Place
  pub name : List ℕ

-- the uses in all parts
abbrev pub all : List (List Use) → List Use
all = flat_map (λ uses. uses)

-- ---- values

-- the uses in a literal of this form, from the uses in its parts
abbrev pub uses_at : List ℕ → Literal-F (List Use) (List Use) → List Use
uses_at file (Literal-F.Variable place name) =
    record { file = file; place = place; name = name } ∷ []
uses_at file (Literal-F.List place items) = all items
uses_at file (Literal-F.Object place fields) = all fields
uses_at file _ = []

-- the uses in a field of an object literal: those in its value
abbrev pub uses_of_value : ObjectField-F (List Use) (List Use) → List Use
uses_of_value f = f.value

-- the uses in a literal
unfoldable pub literal_uses : List ℕ → Literal → List Use
literal_uses file = fold-Literal (List Use) (List Use) (uses_at file) uses_of_value

-- the uses in the arguments of a field or a directive
abbrev pub argument_uses : List ℕ → List Argument → List Use
argument_uses file = flat_map (λ (a : Argument). literal_uses file a.value)

-- the uses in directives that are applied
abbrev pub directive_uses : List ℕ → List Directive → List Use
directive_uses file = flat_map (λ (d : Directive). argument_uses file d.arguments)

-- ---- selections

-- the uses in a selection of this form, from those in a field or an inline fragment
abbrev pub selected_at : List ℕ → Selection-F (List Use) (List Use) (List Use) → List Use
selected_at file (Selection-F.Field uses) = uses
selected_at file (Selection-F.Spread x) = directive_uses file x.directives
selected_at file (Selection-F.InlineFragment uses) = uses

-- the uses in a field, from the uses in what it selects
abbrev pub field_at : List ℕ → Field-F (List Use) (List Use) (List Use) → List Use
field_at file f =
    argument_uses file f.arguments ++ (directive_uses file f.directives ++ all f.selections)

-- the uses in an inline fragment, from the uses in what it selects
abbrev pub inline_at : List ℕ → InlineFragment-F (List Use) (List Use) (List Use) → List Use
inline_at file i = directive_uses file i.directives ++ all i.selections

-- the uses in a selection, and in what it selects
unfoldable pub selection_uses : List ℕ → Selection → List Use
selection_uses file = fold-Selection (List Use) (List Use) (List Use) (selected_at file)
    (field_at file) (inline_at file)

-- the uses in a selection set
abbrev pub set_uses : List ℕ → List Selection → List Use
set_uses file = flat_map (selection_uses file)

-- ---- definitions

-- the uses in an operation, without the fragments that it reaches
abbrev pub operation_uses : List ℕ → Operation → List Use
operation_uses file o = directive_uses file o.directives ++ set_uses file o.selections

-- the uses in a fragment, without those that it reaches
abbrev pub fragment_uses : List ℕ → Fragment → List Use
fragment_uses file f = directive_uses file f.directives ++ set_uses file f.selections

-- the uses in a definition; one of the type system has none
abbrev pub tree_uses : List ℕ → Tree → List Use
tree_uses file (tree.Operation o) = operation_uses file o
tree_uses file (tree.Fragment f) = fragment_uses file f
tree_uses file _ = []

-- The uses in a definition and in each fragment that it reaches (5.8.3).
pub data Uses (facts : Facts) (d : Definition) : Use → Type 0 where
  in_definition : {x : Use} → Contains (tree_uses d.file d.tree) x → Uses facts d x
  in_fragment : {g : FragmentFact} {x : Use} → Reaches facts d g
      → Contains (fragment_uses g.file g.fragment) x → Uses facts d x
