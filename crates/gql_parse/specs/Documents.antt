-- Executable documents (2.2).
use Rattle.std.specs.Prelude.{ℕ, List, codes}
use Rattle.gql_text.specs.declared.token.Kind.TheVariants as k
use Rattle.gql_ast.specs.declared.definition.Tree.{Tree}
use Rattle.gql_ast.specs.declared.definition.Tree.TheVariants as t
use Rattle.gql_ast.specs.declared.definition.Definition.{Definition}
use Rattle.gql_ast.specs.declared.definition.Document.{Document}
use Rattle.gql_grammar.specs.Symbol.{Phrase, ◌>>=◌, pure, by_test, before, sees_word, whole}
use Rattle.gql_grammar.specs.Repetition.{some_while}
use Rattle.gql_parse.specs.Operations.{operation, fragment}

-- ExecutableDefinition: OperationDefinition or FragmentDefinition
unfoldable pub definition : Phrase Tree
definition = by_test (sees_word (codes "fragment")) (do found ← fragment; pure (t.Fragment found))
    (do found ← operation; pure (t.Operation found))

-- ExecutableDefinition, with the file that it is in
unfoldable pub definition_in : List ℕ → Phrase Definition
definition_in file = do
  found ← definition
  pure (record { file = file; tree = found })

-- ExecutableDocument: ExecutableDefinition+
unfoldable pub document : List ℕ → Phrase Document
document file = do
  found ← some_while (before k.EndOfText) (definition_in file)
  pure (record { definitions = found })

-- ExecutableDocument, up to the end of the text
unfoldable pub executable : List ℕ → Phrase Document
executable file = whole (document file)
