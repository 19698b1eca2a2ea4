-- The definitions of a schema (GraphQL specification, 3.1): the built-in ones, then those of the
-- schema files, in the order of files and places. The first of each name counts, so that built-in
-- ones count before any in a file.
use Rattle.std.specs.Prelude.{ℕ, List, [], ◌∷◌, ◌++◌, Bool, true, not, map, flat_map, Option, Some, None, codes, bytes_eq, if◌then◌else◌}
use Rattle.gql_ast.specs.declared.definition.Definition.{Definition}
use Rattle.gql_ast.specs.declared.definition.Document.{Document}
use Rattle.gql_ast.specs.declared.definition.Tree.{Tree}
use Rattle.gql_ast.specs.declared.definition.Tree.TheVariants as tree
use Rattle.gql_ast.specs.declared.files.Files.{Files}
use Rattle.gql_ast.specs.declared.type_system.TypeDefinition.{TypeDefinition}
use Rattle.gql_ast.specs.declared.type_system.TypeExtension.{TypeExtension}
use Rattle.gql_ast.specs.declared.type_system.DirectiveDefinition.{DirectiveDefinition}
use Rattle.gql_ast.specs.declared.type_system.SchemaDefinition.{SchemaDefinition}
use Rattle.gql_ast.specs.declared.type_system.SchemaExtension.{SchemaExtension}
use Rattle.gql_built_in.specs.BuiltIn.{built_in}
use Rattle.gql_built_in.specs.declared.sited.Sited.{Sited}

-- a definition with its file
abbrev pub of_file : Definition → Sited Tree
of_file d = record { file = Some d.file; node = d.tree }

-- these definitions, each with its file
abbrev pub in_order_of : List Definition → List (Sited Tree)
in_order_of = map of_file

-- the definitions of schema files
abbrev pub of_files : List (List ℕ × Document) → List (Sited Tree)
of_files files = flat_map (λ (f : List ℕ × Document). in_order_of f.1.definitions) files

-- all definitions of a schema; Float is among the built-in ones by the profile
abbrev pub definitions : Files → List (Sited Tree)
definitions files = built_in files.profile.floats ++ of_files files.schema

-- whether a definition of this name, in this file, is that of a type. In a file that of Float is not:
-- no file defines it, and where it is served it is built in.
abbrev pub names_a_type : Option (List ℕ) → List ℕ → Bool
names_a_type None name = true
names_a_type (Some file) name = not (bytes_eq name (codes "Float"))

-- the definition, if it is that of a type
abbrev pub type_in : Option (List ℕ) → Tree → List (Sited TypeDefinition)
type_in file (tree.Type definition) =
    if names_a_type file definition.name.text then record { file = file; node = definition } ∷ [] else []
type_in file (tree.Operation operation) = []
type_in file (tree.Fragment fragment) = []
type_in file (tree.Schema definition) = []
type_in file (tree.Directive definition) = []
type_in file (tree.SchemaExtension extension) = []
type_in file (tree.TypeExtension extension) = []

-- the definition, if it is an extension of a type
abbrev pub extension_in : Option (List ℕ) → Tree → List (Sited TypeExtension)
extension_in file (tree.TypeExtension extension) = record { file = file; node = extension } ∷ []
extension_in file (tree.Operation operation) = []
extension_in file (tree.Fragment fragment) = []
extension_in file (tree.Schema definition) = []
extension_in file (tree.Type definition) = []
extension_in file (tree.Directive definition) = []
extension_in file (tree.SchemaExtension extension) = []

-- the definition, if it is that of a directive
abbrev pub directive_in : Option (List ℕ) → Tree → List (Sited DirectiveDefinition)
directive_in file (tree.Directive definition) = record { file = file; node = definition } ∷ []
directive_in file (tree.Operation operation) = []
directive_in file (tree.Fragment fragment) = []
directive_in file (tree.Schema definition) = []
directive_in file (tree.Type definition) = []
directive_in file (tree.SchemaExtension extension) = []
directive_in file (tree.TypeExtension extension) = []

-- the definition, if it is that of the schema
abbrev pub schema_in : Option (List ℕ) → Tree → List (Sited SchemaDefinition)
schema_in file (tree.Schema definition) = record { file = file; node = definition } ∷ []
schema_in file (tree.Operation operation) = []
schema_in file (tree.Fragment fragment) = []
schema_in file (tree.Type definition) = []
schema_in file (tree.Directive definition) = []
schema_in file (tree.SchemaExtension extension) = []
schema_in file (tree.TypeExtension extension) = []

-- the definition, if it is an extension of the schema
abbrev pub schema_extension_in : Option (List ℕ) → Tree → List (Sited SchemaExtension)
schema_extension_in file (tree.SchemaExtension extension) =
    record { file = file; node = extension } ∷ []
schema_extension_in file (tree.Operation operation) = []
schema_extension_in file (tree.Fragment fragment) = []
schema_extension_in file (tree.Schema definition) = []
schema_extension_in file (tree.Type definition) = []
schema_extension_in file (tree.Directive definition) = []
schema_extension_in file (tree.TypeExtension extension) = []

-- the definitions of types
abbrev pub type_definitions : List (Sited Tree) → List (Sited TypeDefinition)
type_definitions ds = flat_map (λ (d : Sited Tree). type_in d.file d.node) ds

-- the extensions of types
abbrev pub type_extensions : List (Sited Tree) → List (Sited TypeExtension)
type_extensions ds = flat_map (λ (d : Sited Tree). extension_in d.file d.node) ds

-- the definitions of directives
abbrev pub directive_definitions : List (Sited Tree) → List (Sited DirectiveDefinition)
directive_definitions ds = flat_map (λ (d : Sited Tree). directive_in d.file d.node) ds

-- the definitions of the schema
abbrev pub schema_definitions : List (Sited Tree) → List (Sited SchemaDefinition)
schema_definitions ds = flat_map (λ (d : Sited Tree). schema_in d.file d.node) ds

-- the extensions of the schema
abbrev pub schema_extensions : List (Sited Tree) → List (Sited SchemaExtension)
schema_extensions ds = flat_map (λ (d : Sited Tree). schema_extension_in d.file d.node) ds
