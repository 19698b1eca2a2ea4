-- Document files: which texts are one, with which tree, and where the others are refused.
use Rattle.std.specs.Prelude.{ℕ, List, Bool, ◌||◌, bytes_eq, codes}
use Rattle.gql_text.specs.Lexeme.{Lexeme}
use Rattle.gql_text.specs.declared.token.Kind.TheVariants as k
use Rattle.gql_grammar.specs.Symbol.{Phrase, before, by_test, pure, sees, sees_name, whole, ◌>>=◌}
use Rattle.gql_grammar.specs.Repetition.{some_while}
use Rattle.gql_grammar.specs.Sources.{IsSourceOf, IsFaultOf}
use Rattle.gql_grammar.specs.declared.fault.SyntaxFault.{SyntaxFault}
use Rattle.gql_ast.specs.declared.definition.Tree.{Tree}
use Rattle.gql_ast.specs.declared.definition.Definition.{Definition}
use Rattle.gql_ast.specs.declared.definition.Document.{Document}
use Rattle.gql_parse.specs.Operations.{is_operation_type}
use Rattle.gql_parse.specs.Documents as executable
use Rattle.gql_parse_sdl.specs.TypeSystem.{type_system}

-- whether an operation or a fragment begins with this word
abbrev pub is_executable_word : List ℕ → Bool
is_executable_word text = bytes_eq text (codes "fragment") || is_operation_type text

-- whether an operation or a fragment is next
abbrev pub begins_executable : List Lexeme → Bool
begins_executable ts = sees k.LeftBrace ts || sees_name is_executable_word ts

-- Definition: ExecutableDefinition or TypeSystemDefinitionOrExtension (2.2)
abbrev pub any_definition : Phrase Tree
any_definition = by_test begins_executable executable.definition type_system

-- Definition, with the file that it is in
unfoldable pub definition : List ℕ → Phrase Definition
definition file = do
  found ← any_definition
  pure (record { file = file; tree = found })

-- Definition+, up to the end of the text
abbrev pub definitions : List ℕ → Phrase (List Definition)
definitions file = some_while (before k.EndOfText) (definition file)

-- Document: Definition+ (2.2)
unfoldable pub document : List ℕ → Phrase Document
document file = do
  found ← definitions file
  pure (record { definitions = found })

-- Document, up to the end of the text
unfoldable pub document_file : List ℕ → Phrase Document
document_file file = whole (document file)

-- the text, of at most so many bytes, is a document file of that name, with this tree
unfoldable pub IsDocumentFile : ℕ → List ℕ → List ℕ → Document → Type 0
IsDocumentFile limit file source document = IsSourceOf (document_file file) limit source document

-- the text is refused with this fault, as a document file of that name and of at most so many bytes:
-- one of the lexer, or else of the grammar
unfoldable pub IsDocumentFault : ℕ → List ℕ → List ℕ → SyntaxFault → Type 0
IsDocumentFault limit file source fault = IsFaultOf (document_file file) limit source fault
