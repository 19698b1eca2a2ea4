-- Schema files without one part (GraphQL 3): this registry's own rule. The part goes alone, a type with
-- its extensions. What refers to it stays, and may be at fault then.
use Rattle.std.specs.Prelude.{ℕ, List, [], ◌∷◌, Bool, false, Option, None, Some, bytes_eq, flat_map, map, if◌then◌else◌}
use Rattle.gql_ast.specs.declared.definition.Definition.{Definition}
use Rattle.gql_ast.specs.declared.definition.Document.{Document}
use Rattle.gql_ast.specs.declared.definition.Tree.{Tree}
use Rattle.gql_ast.specs.declared.definition.Tree.TheVariants as tree
use Rattle.gql_ast.specs.declared.type_system.EnumValueDefinition.{EnumValueDefinition}
use Rattle.gql_ast.specs.declared.type_system.FieldDefinition.{FieldDefinition}
use Rattle.gql_ast.specs.declared.type_system.InputValueDefinition.{InputValueDefinition}
use Rattle.gql_ast.specs.declared.type_system.TypeParts.{TypeParts}
use Rattle.gql_ast.specs.declared.type_system.TypeParts.TheVariants as parts
use Rattle.gql_removal.specs.declared.subject.Subject.{Subject}
use Rattle.gql_removal.specs.declared.subject.Subject.TheVariants as subject

-- ---- lists without a name

-- a field, unless its name is n
abbrev pub other_field : List ℕ → FieldDefinition → List FieldDefinition
other_field n f = if bytes_eq n f.name.text then [] else f ∷ []

-- the fields but that of the name n
abbrev pub fields_but : List ℕ → List FieldDefinition → List FieldDefinition
fields_but n = flat_map (other_field n)

-- an argument or an input field, unless its name is n
abbrev pub other_input : List ℕ → InputValueDefinition → List InputValueDefinition
other_input n i = if bytes_eq n i.name.text then [] else i ∷ []

-- the arguments or input fields but that of the name n
abbrev pub inputs_but : List ℕ → List InputValueDefinition → List InputValueDefinition
inputs_but n = flat_map (other_input n)

-- a value of an enum, unless its name is n
abbrev pub other_value : List ℕ → EnumValueDefinition → List EnumValueDefinition
other_value n v = if bytes_eq n v.name.text then [] else v ∷ []

-- the values of an enum but that of the name n
abbrev pub values_but : List ℕ → List EnumValueDefinition → List EnumValueDefinition
values_but n = flat_map (other_value n)

-- ---- members of types

-- the parts of a type without its field, input field or value of the name n
abbrev pub parts_but : List ℕ → TypeParts → TypeParts
parts_but n (parts.Object interfaces fields) = parts.Object interfaces (fields_but n fields)
parts_but n (parts.Interface interfaces fields) = parts.Interface interfaces (fields_but n fields)
parts_but n (parts.Enum values) = parts.Enum (values_but n values)
parts_but n (parts.InputObject fields) = parts.InputObject (inputs_but n fields)
parts_but n parts.Scalar = parts.Scalar
parts_but n (parts.Union members) = parts.Union members

-- a field, without its argument of the name n if it is the field of this name
abbrev pub field_without : List ℕ → List ℕ → FieldDefinition → FieldDefinition
field_without field n f = if bytes_eq field f.name.text
    then record f { arguments = inputs_but n f.arguments }
    else f

-- the parts of a type without the argument of the name n of the field of this name
abbrev pub parts_without : List ℕ → List ℕ → TypeParts → TypeParts
parts_without field n (parts.Object interfaces fields) =
    parts.Object interfaces (map (field_without field n) fields)
parts_without field n (parts.Interface interfaces fields) =
    parts.Interface interfaces (map (field_without field n) fields)
parts_without field n (parts.Enum values) = parts.Enum values
parts_without field n (parts.InputObject fields) = parts.InputObject fields
parts_without field n parts.Scalar = parts.Scalar
parts_without field n (parts.Union members) = parts.Union members

-- ---- definitions

-- whether this defines or extends the type of the name n
abbrev pub is_of_type : List ℕ → Tree → Bool
is_of_type n (tree.Type d) = bytes_eq n d.name.text
is_of_type n (tree.TypeExtension e) = bytes_eq n e.name.text
is_of_type n _ = false

-- whether this defines the directive of the name n
abbrev pub is_of_directive : List ℕ → Tree → Bool
is_of_directive n (tree.Directive d) = bytes_eq n d.name.text
is_of_directive n _ = false

-- A definition or an extension, its parts changed by f if it is of the type of the name n.
abbrev pub with_parts : List ℕ → (TypeParts → TypeParts) → Tree → Tree
with_parts n f (tree.Type d) = if bytes_eq n d.name.text
    then tree.Type (record d { parts = f d.parts })
    else tree.Type d
with_parts n f (tree.TypeExtension e) = if bytes_eq n e.name.text
    then tree.TypeExtension (record e { parts = f e.parts })
    else tree.TypeExtension e
with_parts n f other = other

-- A definition, without its argument of the name n if it is of this directive.
abbrev pub with_arguments_but : List ℕ → List ℕ → Tree → Tree
with_arguments_but directive n (tree.Directive d) = if bytes_eq directive d.name.text
    then tree.Directive (record d { arguments = inputs_but n d.arguments })
    else tree.Directive d
with_arguments_but directive n other = other

-- what is left of a definition without a part
abbrev pub tree_left : Subject → Tree → Option Tree
tree_left (subject.«Type» n) t = if is_of_type n t then None else Some t
tree_left (subject.Member of_type n) t = Some (with_parts of_type (parts_but n) t)
tree_left (subject.Argument of_type field n) t =
    Some (with_parts of_type (parts_without field n) t)
tree_left (subject.Directive n) t = if is_of_directive n t then None else Some t
tree_left (subject.DirectiveArgument directive n) t = Some (with_arguments_but directive n t)

-- ---- files

-- a definition with this tree in place of its own, if there is one
abbrev pub with_tree : Definition → Option Tree → List Definition
with_tree d None = []
with_tree d (Some t) = record { file = d.file; tree = t } ∷ []

-- what is left of a definition in a file
abbrev pub definition_left : Subject → Definition → List Definition
definition_left s d = with_tree d (tree_left s d.tree)

-- a file without a part
abbrev pub document_left : Subject → Document → Document
document_left s d = record { definitions = flat_map (definition_left s) d.definitions }

-- schema files without a part, each under its name
abbrev pub schema_left : Subject → List (List ℕ × Document) → List (List ℕ × Document)
schema_left s = map (λ (file : List ℕ × Document). (file.0, document_left s file.1))
