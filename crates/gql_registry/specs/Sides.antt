-- The two sides of files: schema files, which are one schema together, and document files.
use Rattle.std.specs.Prelude.{ℕ, List, Option, Some, None}
use Rattle.gql_grammar.specs.declared.fault.SyntaxFault.{SyntaxFault}
use Rattle.gql_ast.specs.declared.definition.Document.{Document}
use Rattle.gql_ast.specs.declared.fault.FileSide.{FileSide}
use Rattle.gql_ast.specs.declared.fault.FileSide.TheVariants.{Schema, Documents}
use Rattle.gql_ast.specs.declared.files.Files.{Files}
use Rattle.gql_ast.specs.declared.profile.Profile.{Profile}
use Rattle.gql_parse_sdl.specs.DocumentFiles.{IsDocumentFile, IsDocumentFault}
use Rattle.gql_parse_sdl.specs.SchemaFiles.{IsSchemaFile, IsSchemaFault}
use Rattle.gql_text.specs.Lexis.{longest_text}
use Rattle.gql_types.specs.Edits.{with_schema, without_schema}
use Rattle.gql_verdict.specs.DocumentEdits.{with_document, without_document}

-- the greatest number of bytes of a file of a side
abbrev pub limit_on : Profile → FileSide → ℕ
limit_on profile Schema = profile.limits.schema_file
limit_on profile Documents = profile.limits.document_file

-- the files of a side
abbrev pub files_on : FileSide → Files → List (List ℕ × Document)
files_on Schema files = files.schema
files_on Documents files = files.documents

-- the files with this file on a side, in place of any of its name
abbrev pub with_put : FileSide → Files → List ℕ → Document → Files
with_put Schema = with_schema
with_put Documents = with_document

-- the files without the file of that name on a side
abbrev pub with_removed : FileSide → Files → List ℕ → Files
with_removed Schema = without_schema
with_removed Documents = without_document

-- the files with this file on a side, in place of any of its name; or without the file of that name,
-- if there is none to put
abbrev pub with_file : FileSide → Files → List ℕ → Option Document → Files
with_file side files name (Some document) = with_put side files name document
with_file side files name None = with_removed side files name

-- the text is a file of this side and of that name, with this tree
abbrev pub IsFileOn : FileSide → List ℕ → List ℕ → Document → Type 0
IsFileOn Schema = IsSchemaFile longest_text
IsFileOn Documents = IsDocumentFile longest_text

-- the text has this fault, as a file of this side and of that name
abbrev pub IsFaultOn : FileSide → List ℕ → List ℕ → SyntaxFault → Type 0
IsFaultOn Schema = IsSchemaFault longest_text
IsFaultOn Documents = IsDocumentFault longest_text
