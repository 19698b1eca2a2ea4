-- Input values: arguments in definitions (3.6.1) and the fields of input objects (3.10).
use Rattle.std.specs.Prelude.{List, [], true}
use Rattle.gql_text.specs.declared.token.Kind.{Kind}
use Rattle.gql_text.specs.declared.token.Kind.TheVariants as k
use Rattle.gql_ast.specs.declared.type_system.InputValueDefinition.{InputValueDefinition}
use Rattle.gql_grammar.specs.Symbol.{Phrase, Part, ◌>>=◌, ◌>>◌, pure, token, sees, before, optional}
use Rattle.gql_grammar.specs.Repetition.{some_while}
use Rattle.gql_parse.specs.Names.{name}
use Rattle.gql_parse.specs.Types.{type_ref}
use Rattle.gql_parse.specs.Operations.{optional_default}
use Rattle.gql_parse.specs.Directives.{directives}
use Rattle.gql_parse_sdl.specs.Descriptions.{optional_description, text_of}

-- InputValueDefinition: Description? Name : Type DefaultValue? Directives?, with constant
-- directives (3.6.1)
unfoldable pub input_value : Phrase InputValueDefinition
input_value = do
  described ← optional_description
  found ← name
  token k.Colon
  of ← type_ref
  given ← optional_default
  applied ← directives true
  pure (record {
    description = text_of described;
    name = found;
    of_type = of;
    default = given;
    directives = applied;
  })

-- InputValueDefinition+, up to the closing mark
abbrev pub input_values : Kind → Phrase (List InputValueDefinition)
input_values close = some_while (before close) input_value

-- ArgumentsDefinition: ( InputValueDefinition+ ) (3.6.1)
unfoldable pub argument_definitions : Phrase (List InputValueDefinition)
argument_definitions = do
  token k.LeftParenthesis
  found ← input_values k.RightParenthesis
  token k.RightParenthesis
  pure found

-- ArgumentsDefinition? (3.6.1)
abbrev pub optional_argument_definitions : Part (List InputValueDefinition)
optional_argument_definitions = optional (sees k.LeftParenthesis) [] argument_definitions

-- InputFieldsDefinition: { InputValueDefinition+ } (3.10)
unfoldable pub input_fields : Phrase (List InputValueDefinition)
input_fields = do
  token k.LeftBrace
  found ← input_values k.RightBrace
  token k.RightBrace
  pure found

-- InputFieldsDefinition? (3.10)
abbrev pub optional_input_fields : Part (List InputValueDefinition)
optional_input_fields = optional (sees k.LeftBrace) [] input_fields
