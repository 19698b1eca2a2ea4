-- Extensions of the schema and of types (3.1): each has at least one part after what it extends.
use Rattle.std.specs.Prelude.{List, Option, Some, None, Bool, true, ◌||◌, codes}
use Rattle.gql_text.specs.Lexeme.{Lexeme}
use Rattle.gql_text.specs.declared.place.Place.{Place}
use Rattle.gql_text.specs.declared.token.Kind.TheVariants as k
use Rattle.gql_ast.specs.declared.definition.Tree.{Tree}
use Rattle.gql_ast.specs.declared.definition.Tree.TheVariants as t
use Rattle.gql_ast.specs.declared.type_system.SchemaExtension.{SchemaExtension}
use Rattle.gql_ast.specs.declared.type_system.TypeExtension.{TypeExtension}
use Rattle.gql_grammar.specs.Symbol.{Phrase, Part, ◌>>=◌, ◌>>◌, pure, refuse, relaxed, word, by_test, sees, sees_word}
use Rattle.gql_parse.specs.Names.{name}
use Rattle.gql_parse.specs.Directives.{directives}
use Rattle.gql_parse_sdl.specs.declared.type_keyword.TypeKeyword.{TypeKeyword}
use Rattle.gql_parse_sdl.specs.declared.type_keyword.TypeKeyword.TheVariants as w
use Rattle.gql_parse_sdl.specs.Words.{by_text}
use Rattle.gql_parse_sdl.specs.Types.{body, spelling, type_keyword}
use Rattle.gql_parse_sdl.specs.Schemas.{optional_roots}

-- whether @ or { is next, which begin directives or a part in braces
abbrev pub begins_braces : List Lexeme → Bool
begins_braces ts = sees k.At ts || sees k.LeftBrace ts

-- whether a part that a type of this keyword may have is next
abbrev pub begins_part : TypeKeyword → List Lexeme → Bool
begins_part w.Scalar ts = sees k.At ts
begins_part w.Object ts = begins_braces ts || sees_word (codes "implements") ts
begins_part w.Interface ts = begins_braces ts || sees_word (codes "implements") ts
begins_part w.Union ts = sees k.At ts || sees k.Equals ts
begins_part w.Enum ts = begins_braces ts
begins_part w.InputObject ts = begins_braces ts

-- takes no token, but fails if no part is next
abbrev pub some_part : (List Lexeme → Bool) → Part (Unit {0})
some_part begins = by_test begins (pure tt) (relaxed refuse)

-- TypeExtension, from the token after extend: its keyword, Name, and at least one part (3.4.3)
unfoldable pub type_extension : Place → TypeKeyword → Phrase TypeExtension
type_extension from keyword = do
  word (spelling keyword)
  found ← name
  some_part (begins_part keyword)
  rest ← body keyword
  pure (record { place = from; name = found; directives = rest.directives; parts = rest.parts })

-- SchemaExtension, from the token after extend: schema, and at least one part of
-- Directives? { RootOperationTypeDefinition+ }? (3.3.2)
unfoldable pub schema_extension : Place → Phrase SchemaExtension
schema_extension from = do
  word (codes "schema")
  some_part begins_braces
  applied ← directives true
  found ← optional_roots
  pure (record { place = from; directives = applied; roots = found })

-- TypeExtension, from the token after extend, if a keyword begins one
abbrev pub typed : Place → Option TypeKeyword → Phrase Tree
typed from (Some keyword) = do found ← type_extension from keyword; pure (t.TypeExtension found)
typed from None = refuse

-- TypeSystemExtension, from the token after extend (3.1)
abbrev pub extended : Place → Phrase Tree
extended from = by_test (sees_word (codes "schema"))
    (do found ← schema_extension from; pure (t.SchemaExtension found))
    (by_text (λ text. typed from (type_keyword text)))

-- TypeSystemExtension (3.1)
unfoldable pub extension : Phrase Tree
extension = do
  mark ← word (codes "extend")
  extended mark.place
