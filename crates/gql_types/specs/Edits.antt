-- What an edit of a schema file may change: the types that the file defines or extends, before the
-- edit or after it.
use Rattle.std.specs.Prelude.{◌≡◌, ℕ, List, [], ◌∷◌, ◌++◌, flat_map, find, bytes_eq, is_some, false, Option, Some, None, Contains}
use Rattle.gql_ast.specs.FileMaps.{with_file, without_file}
use Rattle.gql_ast.specs.declared.definition.Definition.{Definition}
use Rattle.gql_ast.specs.declared.definition.Document.{Document}
use Rattle.gql_ast.specs.declared.definition.Tree.{Tree}
use Rattle.gql_ast.specs.declared.definition.Tree.TheVariants as tree
use Rattle.gql_ast.specs.declared.files.Files.{Files}
use Rattle.gql_types.specs.Possible.{name_of}
use Rattle.gql_types.specs.Schemas.{type_named}
use Rattle.gql_types.specs.declared.schema.Schema.{Schema}
use Rattle.gql_types.specs.declared.schema_type.SchemaType.{SchemaType}

-- the name of a definition, if it defines or extends a type
abbrev pub type_name_in : Tree → List (List ℕ)
type_name_in (tree.Type definition) = definition.name.text ∷ []
type_name_in (tree.TypeExtension extension) = extension.name.text ∷ []
type_name_in (tree.Operation operation) = []
type_name_in (tree.Fragment fragment) = []
type_name_in (tree.Schema definition) = []
type_name_in (tree.Directive definition) = []
type_name_in (tree.SchemaExtension extension) = []

-- the names of the types that these definitions define or extend
abbrev pub names_in : List Definition → List (List ℕ)
names_in definitions = flat_map (λ (d : Definition). type_name_in d.tree) definitions

-- the names of the types that a file defines or extends, or none if there is no file
abbrev pub type_names : Option Document → List (List ℕ)
type_names None = []
type_names (Some document) = names_in document.definitions

-- the names of the types that an edit may change, by the file before and after it
abbrev pub edited_names : Option Document → Option Document → List (List ℕ)
edited_names before after = type_names before ++ type_names after

-- if its name is not among these, the type is that of its name before the edit
abbrev pub KeepsType : List (List ℕ) → Schema → SchemaType → Type 0
KeepsType names before t = is_some (find (bytes_eq (name_of t)) names) ≡ false
    → type_named before (name_of t) ≡ Some t

-- each of these types whose name is not among the names is the type of its name before the edit
abbrev pub KeepsTypes : List (List ℕ) → Schema → List SchemaType → Type 0
KeepsTypes names before types = (t : SchemaType) → Contains types t → KeepsType names before t

-- each type after an edit whose name is not among these is the type of its name before the edit
abbrev pub KeepsOthers : List (List ℕ) → Schema → Schema → Type 0
KeepsOthers names before after = KeepsTypes names before after.types

-- the files with this schema file, in place of any of its name
abbrev pub with_schema : Files → List ℕ → Document → Files
with_schema files name document =
    record files { schema = with_file files.schema name document }

-- the files without the schema file of that name
abbrev pub without_schema : Files → List ℕ → Files
without_schema files name =
    record files { schema = without_file files.schema name }
