-- Schema definitions (3.3).
use Rattle.std.specs.Prelude.{List, [], Option, true, codes}
use Rattle.gql_text.specs.declared.token.Kind.TheVariants as k
use Rattle.gql_ast.specs.declared.type_system.RootOperation.{RootOperation}
use Rattle.gql_ast.specs.declared.type_system.SchemaDefinition.{SchemaDefinition}
use Rattle.gql_grammar.specs.Symbol.{Phrase, Part, ◌>>=◌, ◌>>◌, pure, token, word, sees, before, optional}
use Rattle.gql_grammar.specs.Repetition.{some_while}
use Rattle.gql_parse.specs.Names.{name}
use Rattle.gql_parse.specs.Directives.{directives}
use Rattle.gql_parse.specs.Operations.{operation_kind, operation_word}
use Rattle.gql_parse_sdl.specs.declared.description.Description.{Description}
use Rattle.gql_parse_sdl.specs.Descriptions.{start, text_of}

-- RootOperationTypeDefinition: OperationType : NamedType (3.3.1)
unfoldable pub root : Phrase RootOperation
root = do
  kind ← operation_word
  token k.Colon
  found ← name
  pure (record { place = kind.place; kind = operation_kind kind.text; name = found })

-- { RootOperationTypeDefinition+ }
unfoldable pub roots : Phrase (List RootOperation)
roots = do
  token k.LeftBrace
  found ← some_while (before k.RightBrace) root
  token k.RightBrace
  pure found

-- { RootOperationTypeDefinition+ }?
abbrev pub optional_roots : Part (List RootOperation)
optional_roots = optional (sees k.LeftBrace) [] roots

-- SchemaDefinition, from the token after its description (3.3):
-- schema Directives? { RootOperationTypeDefinition+ }
unfoldable pub schema : Option Description → Phrase SchemaDefinition
schema described = do
  mark ← word (codes "schema")
  applied ← directives true
  found ← roots
  pure (record {
    place = start described mark.place;
    description = text_of described;
    keyword = mark.place;
    directives = applied;
    roots = found;
  })
