-- Definitions and extensions of the type system (3).
use Rattle.std.specs.Prelude.{Option, Some, None, codes}
use Rattle.gql_ast.specs.declared.definition.Tree.{Tree}
use Rattle.gql_ast.specs.declared.definition.Tree.TheVariants as t
use Rattle.gql_grammar.specs.Symbol.{Phrase, ◌>>=◌, pure, refuse, by_test, sees_word}
use Rattle.gql_parse_sdl.specs.declared.description.Description.{Description}
use Rattle.gql_parse_sdl.specs.declared.type_keyword.TypeKeyword.{TypeKeyword}
use Rattle.gql_parse_sdl.specs.Words.{by_text}
use Rattle.gql_parse_sdl.specs.Descriptions.{optional_description}
use Rattle.gql_parse_sdl.specs.Types.{type_definition, type_keyword}
use Rattle.gql_parse_sdl.specs.Schemas.{schema}
use Rattle.gql_parse_sdl.specs.DirectiveDefinitions.{directive_definition}
use Rattle.gql_parse_sdl.specs.Extensions.{extension}

-- TypeDefinition, if a keyword begins one
abbrev pub typed : Option Description → Option TypeKeyword → Phrase Tree
typed described (Some keyword) = do found ← type_definition described keyword; pure (t.Type found)
typed described None = refuse

-- SchemaDefinition, DirectiveDefinition or TypeDefinition, from the token after its description
abbrev pub defined : Option Description → Phrase Tree
defined described =
    by_test (sees_word (codes "schema")) (do found ← schema described; pure (t.Schema found))
    (by_test (sees_word (codes "directive"))
    (do found ← directive_definition described; pure (t.Directive found))
    (by_text (λ text. typed described (type_keyword text))))

-- TypeSystemDefinition, with its description
unfoldable pub definition : Phrase Tree
definition = do
  described ← optional_description
  defined described

-- TypeSystemDefinition or TypeSystemExtension
abbrev pub type_system : Phrase Tree
type_system = by_test (sees_word (codes "extend")) extension definition
