use Rattle.std.proofs.Common.{◌≡◌, ℕ, List, [], Ok}
use Rattle.gql_text.specs.Lexeme.{Lexeme}
use Rattle.gql_ast.specs.declared.definition.Document.{Document}
use Rattle.gql_grammar.proofs.Files.{whole_rest}
use Rattle.gql_grammar.proofs.Sources.{one_source, one_fault_of, tree_or_fault, some_answer_of}
use Rattle.gql_parse_sdl.specs.DocumentFiles.{document, document_file, IsDocumentFile, IsDocumentFault}
use Rattle.gql_parse_sdl.proofs.document_file.one_document_answer.Goals as goal

pub returns-clause-document : goal.returns-clause-document
unfolding IsDocumentFile IsDocumentFault
returns-clause-document c limit file source a b h k = one_source (document_file file) limit source a b h k

pub returns-clause-fault : goal.returns-clause-fault
unfolding IsDocumentFile IsDocumentFault
returns-clause-fault c limit file source f g h k = one_fault_of (document_file file) limit source f g h k

pub returns-clause-apart : goal.returns-clause-apart
unfolding IsDocumentFile IsDocumentFault
returns-clause-apart c limit file source d f h k = tree_or_fault (document_file file) limit source d f h k

reads_all : (file : List ℕ) (us : List Lexeme) (d : Document) (rest : List Lexeme) → (document_file file).read us ≡ Ok (d, rest) → rest ≡ []
unfolding document_file
reads_all file us d rest h = whole_rest (document file) us d rest h

pub returns-clause-some : goal.returns-clause-some
unfolding IsDocumentFile IsDocumentFault
returns-clause-some c limit file source = some_answer_of (document_file file) limit source (reads_all file)
