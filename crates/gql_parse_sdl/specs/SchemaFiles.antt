-- Schema files: which texts are one, with which tree, and where the others are refused.
use Rattle.std.specs.Prelude.{ℕ, List}
use Rattle.gql_text.specs.declared.token.Kind.TheVariants as k
use Rattle.gql_grammar.specs.Symbol.{Phrase, before, pure, whole, ◌>>=◌}
use Rattle.gql_grammar.specs.Repetition.{some_while}
use Rattle.gql_grammar.specs.Sources.{IsSourceOf, IsFaultOf}
use Rattle.gql_grammar.specs.declared.fault.SyntaxFault.{SyntaxFault}
use Rattle.gql_ast.specs.declared.definition.Definition.{Definition}
use Rattle.gql_ast.specs.declared.definition.Document.{Document}
use Rattle.gql_parse_sdl.specs.TypeSystem.{type_system}

-- TypeSystemDefinitionOrExtension, with the file that it is in (3)
unfoldable pub definition : List ℕ → Phrase Definition
definition file = do
  found ← type_system
  pure (record { file = file; tree = found })

-- TypeSystemDefinitionOrExtension+, up to the end of the text
abbrev pub definitions : List ℕ → Phrase (List Definition)
definitions file = some_while (before k.EndOfText) (definition file)

-- TypeSystemExtensionDocument: TypeSystemDefinitionOrExtension+ (3)
unfoldable pub document : List ℕ → Phrase Document
document file = do
  found ← definitions file
  pure (record { definitions = found })

-- TypeSystemExtensionDocument, up to the end of the text
unfoldable pub schema_file : List ℕ → Phrase Document
schema_file file = whole (document file)

-- the text, of at most so many bytes, is a schema file of that name, with this tree
unfoldable pub IsSchemaFile : ℕ → List ℕ → List ℕ → Document → Type 0
IsSchemaFile limit file source document = IsSourceOf (schema_file file) limit source document

-- the text is refused with this fault, as a schema file of that name and of at most so many bytes:
-- one of the lexer, or else of the grammar
unfoldable pub IsSchemaFault : ℕ → List ℕ → List ℕ → SyntaxFault → Type 0
IsSchemaFault limit file source fault = IsFaultOf (schema_file file) limit source fault
