-- Selection sets (2.4), fields (2.5) and fragments in them (2.8).
use Rattle.std.specs.Prelude.{ℕ, List, [], Option, Some, None, Bool, false, not, bytes_eq, codes}
use Rattle.gql_text.specs.Lexeme.{Lexeme}
use Rattle.gql_text.specs.declared.token.Kind.{Kind}
use Rattle.gql_text.specs.declared.token.Kind.TheVariants as k
use Rattle.gql_ast.specs.declared.text.Name.{Name}
use Rattle.gql_ast.specs.declared.executable.Selection.{Selection}
use Rattle.gql_ast.specs.declared.executable.Selection.TheVariants as s
use Rattle.gql_ast.specs.declared.executable.Field.{Field, roll-Field}
use Rattle.gql_ast.specs.declared.executable.InlineFragment.{InlineFragment, roll-InlineFragment}
use Rattle.gql_ast.specs.declared.executable.Spread.{Spread}
use Rattle.gql_grammar.specs.Symbol.{Phrase, Part, ◌>>=◌, ◌>>◌, pure, refuse, token, name_where, word, by_kind, by_test, sees, sees_name, sees_word, before, optional}
use Rattle.gql_grammar.specs.Repetition.{some_while}
use Rattle.gql_grammar.specs.Recursion.{recursive}
use Rattle.gql_parse.specs.Names.{name, name_of}
use Rattle.gql_parse.specs.Directives.{optional_arguments, directives}

-- : Name, the rest of a name with an alias (2.7)
unfoldable pub aliased : Name → Phrase (Option Name × Name)
aliased alias = do
  token k.Colon
  found ← name
  pure (Some alias, found)

-- Alias? Name: a name is an alias if a : follows it (2.7)
unfoldable pub names : Phrase (Option Name × Name)
names = do
  first ← name
  optional (sees k.Colon) (None, first) (aliased first)

-- Field: Alias? Name Arguments? Directives? SelectionSet? (2.5)
unfoldable pub field_of : Phrase (List Selection) → Phrase Field
field_of set = do
  named ← names
  given ← optional_arguments false
  applied ← directives false
  inner ← optional (sees k.LeftBrace) [] set
  pure (roll-Field (record {
    alias = named.0;
    name = named.1;
    arguments = given;
    directives = applied;
    selections = inner;
  }))

-- whether a name is a FragmentName: any but on (2.8)
abbrev pub is_fragment_name : List ℕ → Bool
is_fragment_name text = not (bytes_eq text (codes "on"))

-- FragmentName (2.8)
unfoldable pub fragment_name : Phrase Name
fragment_name = do
  t ← name_where is_fragment_name
  pure (name_of t)

-- TypeCondition: on NamedType (2.8.1)
unfoldable pub type_condition : Phrase Name
type_condition = do
  word (codes "on")
  found ← name
  pure found

-- TypeCondition, as a condition that an inline fragment may have (2.8.2)
unfoldable pub some_condition : Phrase (Option Name)
some_condition = do
  found ← type_condition
  pure (Some found)

-- TypeCondition? (2.8.2)
abbrev pub optional_condition : Part (Option Name)
optional_condition = optional (sees_word (codes "on")) None some_condition

-- FragmentSpread: ... FragmentName Directives? (2.8), from the token after the ...
unfoldable pub spread : Lexeme → Phrase Spread
spread mark = do
  found ← fragment_name
  applied ← directives false
  pure (record { place = mark.place; name = found; directives = applied })

-- InlineFragment: ... TypeCondition? Directives? SelectionSet (2.8.2), from the token after the ...
unfoldable pub inline_fragment_of : Lexeme → Phrase (List Selection) → Phrase InlineFragment
inline_fragment_of mark set = do
  on ← optional_condition
  applied ← directives false
  inner ← set
  pure (roll-InlineFragment
      (record { place = mark.place; condition = on; directives = applied; selections = inner }))

-- FragmentSpread or InlineFragment: a fragment name after ... makes a spread, anything else an
-- inline fragment
unfoldable pub spread_or_inline_of : Phrase (List Selection) → Phrase Selection
spread_or_inline_of set = do
  mark ← token k.Ellipsis
  by_test (sees_name is_fragment_name) (do found ← spread mark; pure (s.Spread found))
      (do found ← inline_fragment_of mark set; pure (s.InlineFragment found))

-- Selection: Field, FragmentSpread or InlineFragment, by the kind of its first token (2.4)
abbrev pub selection_by : Phrase (List Selection) → Kind → Phrase Selection
selection_by set k.Name = do found ← field_of set; pure (s.Field found)
selection_by set k.Ellipsis = spread_or_inline_of set
selection_by set _ = refuse

-- Selection, given what a selection set is (2.4)
unfoldable pub selection_of : Phrase (List Selection) → Phrase Selection
selection_of set = by_kind (selection_by set)

-- Selection+, given what a selection set is (2.4)
abbrev pub selections_of : Phrase (List Selection) → Phrase (List Selection)
selections_of set = some_while (before k.RightBrace) (selection_of set)

-- SelectionSet: { Selection+ }, given what an inner selection set is (2.4)
unfoldable pub set_of : Phrase (List Selection) → Phrase (List Selection)
set_of set = do
  token k.LeftBrace
  found ← selections_of set
  token k.RightBrace
  pure found

-- SelectionSet (2.4)
unfoldable pub set : Phrase (List Selection)
set = recursive set_of
