-- The files after an edit of one file, by the side that it is on.
use Rattle.std.proofs.Common.{◌≡◌, ◌∙◌, ℕ, List, Option, Some, None, refl, ap, sym}
use Rattle.gql_ast.specs.FileMaps.{file_named}
use Rattle.gql_ast.specs.declared.definition.Document.{Document}
use Rattle.gql_ast.specs.declared.fault.FileSide.TheVariants.{Schema, Documents}
use Rattle.gql_ast.specs.declared.files.Files.{Files}
use Rattle.gql_registry.specs.Sides.{with_file}
use Rattle.gql_types.specs.Edits.{KeepsOthers, edited_names, with_schema, without_schema}
use Rattle.gql_types.specs.Outlines.{edited_files}
use Rattle.gql_types.specs.Schemas.{schema_of}
use Rattle.gql_verdict.specs.DocumentEdits.{ChangesOnly, touched_by, with_document, without_document}

-- files with another side
abbrev pub with_schema_side : Files → List (List ℕ × Document) → Files
with_schema_side files schema = record files { schema = schema }

abbrev pub with_document_side : Files → List (List ℕ × Document) → Files
with_document_side files documents = record files { documents = documents }

pub schema_files : (files : Files) (name : List ℕ) (document : Option Document)
    → with_file Schema files name document ≡ record files { schema = edited_files files.schema name document }
schema_files files name None = refl
schema_files files name (Some document) = refl

pub document_files : (files : Files) (name : List ℕ) (document : Option Document)
    → with_file Documents files name document ≡ record files { documents = edited_files files.documents name document }
document_files files name None = refl
document_files files name (Some document) = refl

-- the files with one side edited, in the form that the code makes
pub schema_edited : (files copy : Files) (name : List ℕ) (document : Option Document) (new : List (List ℕ × Document)) → copy ≡ files → new ≡ edited_files copy.schema name document
    → with_file Schema files name document ≡ record copy { schema = new }
schema_edited files copy name document new same is = schema_files files name document ∙ sym (ap (with_schema_side copy) is ∙ ap (λ (f : Files). with_schema_side f (edited_files f.schema name document)) same)

pub document_edited : (files copy : Files) (name : List ℕ) (document : Option Document) (new : List (List ℕ × Document)) → copy ≡ files → new ≡ edited_files copy.documents name document
    → with_file Documents files name document ≡ record copy { documents = new }
document_edited files copy name document new same is = document_files files name document ∙ sym (ap (with_document_side copy) is ∙ ap (λ (f : Files). with_document_side f (edited_files f.documents name document)) same)

-- which types an edit of a schema file changes, by the laws of a put and of a removal
pub types_kept : ((files : Files) (name : List ℕ) (document : Document)
    → KeepsOthers (edited_names (file_named files.schema name) (Some document)) (schema_of files) (schema_of (with_schema files name document)))
    → ((files : Files) (name : List ℕ) → KeepsOthers (edited_names (file_named files.schema name) None) (schema_of files) (schema_of (without_schema files name)))
    → (files : Files) (name : List ℕ) (after : Option Document)
    → KeepsOthers (edited_names (file_named files.schema name) after) (schema_of files) (schema_of (with_file Schema files name after))
types_kept put remove files name None = remove files name
types_kept put remove files name (Some document) = put files name document

-- what an edit of a document file touches, by the laws of a put and of a removal
pub touched_alone : ((files : Files) (name : List ℕ) (document : Document)
    → ChangesOnly (touched_by name (file_named files.documents name) (Some document)) files (with_document files name document))
    → ((files : Files) (name : List ℕ) → ChangesOnly (touched_by name (file_named files.documents name) None) files (without_document files name))
    → (files : Files) (name : List ℕ) (after : Option Document)
    → ChangesOnly (touched_by name (file_named files.documents name) after) files (with_file Documents files name after)
touched_alone put remove files name None = remove files name
touched_alone put remove files name (Some document) = put files name document
