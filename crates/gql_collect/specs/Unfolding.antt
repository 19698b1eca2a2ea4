-- What the selections of a set unfold into, for an object of some type (GraphQL 6.3.2,
-- CollectFields): each inline fragment and each spread that counts is replaced by its selections,
-- until there are only fields. A fragment is replaced each time it is spread.
use Rattle.std.specs.Prelude.{◌≡◌, ℕ, List, [], ◌∷◌, ◌++◌, Bool, true, not, ◌||◌, Option, Some, None, find, bytes_eq, if◌then◌else◌}
use Rattle.gql_ast.specs.declared.executable.Field.{Field}
use Rattle.gql_ast.specs.declared.executable.InlineFragment.{InlineFragment}
use Rattle.gql_ast.specs.declared.executable.Selection.{Selection, out-Selection}
use Rattle.gql_ast.specs.declared.executable.Selection.TheOpen.{Selection-F}
use Rattle.gql_ast.specs.declared.executable.Spread.{Spread}
use Rattle.gql_ast.specs.declared.text.Name.{Name}
use Rattle.gql_facts.specs.declared.fact.FragmentFact.{FragmentFact}
use Rattle.gql_types.specs.declared.schema.Schema.{Schema}
use Rattle.serde_json.specs.Data.{Data}
use Rattle.gql_collect.specs.Conditions.{is_left_out, is_possible}
use Rattle.gql_collect.specs.Nodes.{FileSelection, FieldNode, Part, node, selections, in_file}

-- what selections are collected with: the schema, the fragments of the documents in their order,
-- and the object of the variables' values
pub record Given : Type 0 where
  pub schema : Schema
  pub fragments : List FragmentFact
  pub values : Data

-- the first fragment of a name
abbrev pub fragment_named : Given → List ℕ → Option FragmentFact
fragment_named g n = find (λ (f : FragmentFact). bytes_eq n f.fragment.name.text) g.fragments

-- the selections of a fragment for objects of the type t: none, unless its condition applies
abbrev pub held_by : Given → List ℕ → Option FragmentFact → List FileSelection
held_by g t None = []
held_by g t (Some f) = if is_possible g.schema t f.fragment.condition.text
    then in_file f.file f.fragment.selections else []

-- the selections of the fragment of a name, for objects of the type t
abbrev pub held : Given → List ℕ → List ℕ → List FileSelection
held g t n = held_by g t (fragment_named g n)

-- whether the condition of an inline fragment applies; one without a condition always does
abbrev pub applies : Given → List ℕ → Option Name → Bool
applies g t None = true
applies g t (Some c) = is_possible g.schema t c.text

-- what takes the place of a field
abbrev pub field_part : Given → List ℕ → Field → Part
field_part g file f = if is_left_out g.values f.directives then selections []
    else node (record { file = file; field = f })

-- what takes the place of a spread
abbrev pub spread_part : Given → List ℕ → Spread → Part
spread_part g t x = if is_left_out g.values x.directives then selections []
    else selections (held g t x.name.text)

-- what takes the place of an inline fragment
abbrev pub inline_part : Given → List ℕ → List ℕ → InlineFragment → Part
inline_part g t file i = if is_left_out g.values i.directives || not (applies g t i.condition)
    then selections [] else selections (in_file file i.selections)

-- what takes the place of a selection of this form
abbrev pub part_at : Given → List ℕ → List ℕ → Selection-F Selection Field InlineFragment → Part
part_at g t file (Selection-F.Field f) = field_part g file f
part_at g t file (Selection-F.Spread x) = spread_part g t x
part_at g t file (Selection-F.InlineFragment i) = inline_part g t file i

-- what takes the place of a selection, for an object of the type t
abbrev pub part : Given → List ℕ → FileSelection → Part
part g t x = part_at g t x.file (out-Selection x.selection)

-- Selections unfold into these fields. There is no such list if a fragment that counts spreads
-- itself.
pub data Unfolds (g : Given) (t : List ℕ) : List FileSelection → List FieldNode → Type 0 where
  nothing : Unfolds g t [] []
  kept : {x : FileSelection} {n : FieldNode} {rest : List FileSelection} {ns : List FieldNode}
      → part g t x ≡ node n → Unfolds g t rest ns → Unfolds g t (x ∷ rest) (n ∷ ns)
  replaced : {x : FileSelection} {xs rest : List FileSelection} {ns : List FieldNode}
      → part g t x ≡ selections xs → Unfolds g t (xs ++ rest) ns → Unfolds g t (x ∷ rest) ns
