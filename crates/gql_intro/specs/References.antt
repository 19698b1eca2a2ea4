-- Whether the schema files refer to a type (GraphQL 2.11, 3.3): as the type of a field, of an
-- argument or of an input field, as an interface that a type implements, as a member of a union, or
-- as a root operation type. An extension of a type is not a reference to it.
use Rattle.std.specs.Prelude.{◌≡◌, ◌||◌, ℕ, List, Bool, false, bytes_eq}
use Rattle.std.proofs.Common.{ap}
use Rattle.std.specs.List.{list_any}
use Rattle.gql_text.specs.declared.place.Place.{Place}
use Rattle.gql_ast.specs.declared.definition.Definition.{Definition}
use Rattle.gql_ast.specs.declared.definition.Document.{Document}
use Rattle.gql_ast.specs.declared.definition.Tree.{Tree}
use Rattle.gql_ast.specs.declared.definition.Tree.TheVariants as tree
use Rattle.gql_ast.specs.declared.text.Name.{Name}
use Rattle.gql_ast.specs.declared.type_ref.TypeRef.{TypeRef}
use Rattle.gql_ast.specs.declared.type_ref.TypeRef.TheVariants as t
use Rattle.gql_ast.specs.declared.type_system.FieldDefinition.{FieldDefinition}
use Rattle.gql_ast.specs.declared.type_system.InputValueDefinition.{InputValueDefinition}
use Rattle.gql_ast.specs.declared.type_system.RootOperation.{RootOperation}
use Rattle.gql_ast.specs.declared.type_system.TypeParts.{TypeParts}
use Rattle.gql_ast.specs.declared.type_system.TypeParts.TheVariants as parts
use Rattle.gql_types.specs.Written.{Written, named, listed, required, written, written_named, written_list, written_non_null}

-- the name within the lists and Non-Nulls of a type
abbrev pub name_in : Written → List ℕ
name_in (named n) = n
name_in (listed w) = name_in w
name_in (required w) = name_in w

-- whether a name is this one
abbrev pub is_named : List ℕ → Name → Bool
is_named name n = bytes_eq name n.text

-- whether a type reference refers to the type of this name
abbrev pub type_refers : List ℕ → TypeRef → Bool
type_refers name of_type = bytes_eq name (name_in (written of_type))

-- whether an argument or an input field refers to it, by its type
abbrev pub input_refers : List ℕ → InputValueDefinition → Bool
input_refers name input = type_refers name input.of_type

-- whether a field refers to it, by its type or by an argument
abbrev pub field_refers : List ℕ → FieldDefinition → Bool
field_refers name field =
    type_refers name field.of_type || list_any (input_refers name) field.arguments

-- whether a root operation type refers to it, by its name
abbrev pub root_refers : List ℕ → RootOperation → Bool
root_refers name root = bytes_eq name root.name.text

-- whether the definition of a type or an extension refers to it, by its parts
abbrev pub parts_refer : List ℕ → TypeParts → Bool
parts_refer name parts.Scalar = false
parts_refer name (parts.Object interfaces fields) =
    list_any (is_named name) interfaces || list_any (field_refers name) fields
parts_refer name (parts.Interface interfaces fields) =
    list_any (is_named name) interfaces || list_any (field_refers name) fields
parts_refer name (parts.Union members) = list_any (is_named name) members
parts_refer name (parts.Enum values) = false
parts_refer name (parts.InputObject fields) = list_any (input_refers name) fields

-- whether a definition refers to it
abbrev pub tree_refers : List ℕ → Tree → Bool
tree_refers name (tree.Operation operation) = false
tree_refers name (tree.Fragment fragment) = false
tree_refers name (tree.Schema definition) = list_any (root_refers name) definition.roots
tree_refers name (tree.Type definition) = parts_refer name definition.parts
tree_refers name (tree.Directive definition) = list_any (input_refers name) definition.arguments
tree_refers name (tree.SchemaExtension extension) = list_any (root_refers name) extension.roots
tree_refers name (tree.TypeExtension extension) = parts_refer name extension.parts

-- whether a file refers to it
abbrev pub file_refers : List ℕ → List ℕ × Document → Bool
file_refers name file =
    list_any (λ (d : Definition). tree_refers name d.tree) file.1.definitions

-- whether one of these files refers to the type of this name
abbrev pub refer : List (List ℕ × Document) → List ℕ → Bool
refer files name = list_any (file_refers name) files

-- ---- the name within each form of a type

pub name_in_named : (n : Name) → name_in (written (t.Named n)) ≡ n.text
name_in_named n = ap name_in (written_named n)

pub name_in_list : (p : Place) (x : TypeRef)
    → name_in (written (t.List p x)) ≡ name_in (written x)
name_in_list p x = ap name_in (written_list p x)

pub name_in_non_null : (x : TypeRef) → name_in (written (t.NonNull x)) ≡ name_in (written x)
name_in_non_null x = ap name_in (written_non_null x)
