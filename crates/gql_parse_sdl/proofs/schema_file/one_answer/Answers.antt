use Rattle.std.proofs.Common.{◌≡◌, ℕ, List, [], Ok}
use Rattle.gql_text.specs.Lexeme.{Lexeme}
use Rattle.gql_ast.specs.declared.definition.Document.{Document}
use Rattle.gql_grammar.proofs.Files.{whole_rest}
use Rattle.gql_grammar.proofs.Sources.{one_source, one_fault_of, tree_or_fault, some_answer_of}
use Rattle.gql_parse_sdl.specs.SchemaFiles.{document, schema_file, IsSchemaFile, IsSchemaFault}
use Rattle.gql_parse_sdl.proofs.schema_file.one_answer.Goals as goal

pub returns-clause-document : goal.returns-clause-document
unfolding IsSchemaFile IsSchemaFault
returns-clause-document c limit file source a b h k = one_source (schema_file file) limit source a b h k

pub returns-clause-fault : goal.returns-clause-fault
unfolding IsSchemaFile IsSchemaFault
returns-clause-fault c limit file source f g h k = one_fault_of (schema_file file) limit source f g h k

pub returns-clause-apart : goal.returns-clause-apart
unfolding IsSchemaFile IsSchemaFault
returns-clause-apart c limit file source d f h k = tree_or_fault (schema_file file) limit source d f h k

reads_all : (file : List ℕ) (us : List Lexeme) (d : Document) (rest : List Lexeme) → (schema_file file).read us ≡ Ok (d, rest) → rest ≡ []
unfolding schema_file
reads_all file us d rest h = whole_rest (document file) us d rest h

pub returns-clause-some : goal.returns-clause-some
unfolding IsSchemaFile IsSchemaFault
returns-clause-some c limit file source = some_answer_of (schema_file file) limit source (reads_all file)
