-- The values of enums (3.9).
use Rattle.std.specs.Prelude.{ℕ, List, [], Bool, true, not, ◌||◌, bytes_eq, codes}
use Rattle.gql_text.specs.declared.token.Kind.TheVariants as k
use Rattle.gql_ast.specs.declared.text.Name.{Name}
use Rattle.gql_ast.specs.declared.type_system.EnumValueDefinition.{EnumValueDefinition}
use Rattle.gql_grammar.specs.Symbol.{Phrase, Part, ◌>>=◌, ◌>>◌, pure, token, name_where, sees, before, optional}
use Rattle.gql_grammar.specs.Repetition.{some_while}
use Rattle.gql_parse.specs.Names.{name_of}
use Rattle.gql_parse.specs.Directives.{directives}
use Rattle.gql_parse_sdl.specs.Descriptions.{optional_description, text_of}

-- whether a name is an EnumValue: any but true, false and null (2.9.6)
abbrev pub is_enum_value : List ℕ → Bool
is_enum_value text = not (bytes_eq text (codes "true")
    || (bytes_eq text (codes "false") || bytes_eq text (codes "null")))

-- EnumValue (2.9.6)
unfoldable pub enum_name : Phrase Name
enum_name = do
  t ← name_where is_enum_value
  pure (name_of t)

-- EnumValueDefinition: Description? EnumValue Directives?, with constant directives (3.9)
unfoldable pub enum_value : Phrase EnumValueDefinition
enum_value = do
  described ← optional_description
  found ← enum_name
  applied ← directives true
  pure (record { description = text_of described; name = found; directives = applied })

-- EnumValuesDefinition: { EnumValueDefinition+ } (3.9)
unfoldable pub enum_values : Phrase (List EnumValueDefinition)
enum_values = do
  token k.LeftBrace
  found ← some_while (before k.RightBrace) enum_value
  token k.RightBrace
  pure found

-- EnumValuesDefinition? (3.9)
abbrev pub optional_enum_values : Part (List EnumValueDefinition)
optional_enum_values = optional (sees k.LeftBrace) [] enum_values
