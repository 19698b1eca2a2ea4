-- Helper definitions for BuiltIn.antt: trees of definitions that are in no file.
use Rattle.std.specs.Prelude.{ℕ, List, [], map, Option, None, Bool, false}
use Rattle.gql_text.specs.declared.place.Place.{Place}
use Rattle.gql_ast.specs.declared.text.Name.{Name}
use Rattle.gql_ast.specs.declared.type_ref.TypeRef.{TypeRef}
use Rattle.gql_ast.specs.declared.type_ref.TypeRef.TheVariants as r
use Rattle.gql_ast.specs.declared.literal.Literal.{Literal}
use Rattle.gql_ast.specs.declared.literal.Literal.TheVariants as e
use Rattle.gql_ast.specs.declared.type_system.InputValueDefinition.{InputValueDefinition}
use Rattle.gql_ast.specs.declared.type_system.FieldDefinition.{FieldDefinition}
use Rattle.gql_ast.specs.declared.type_system.EnumValueDefinition.{EnumValueDefinition}
use Rattle.gql_ast.specs.declared.type_system.TypeParts.{TypeParts}
use Rattle.gql_ast.specs.declared.type_system.TypeParts.TheVariants as p
use Rattle.gql_ast.specs.declared.type_system.TypeDefinition.{TypeDefinition}
use Rattle.gql_ast.specs.declared.type_system.DirectiveLocation.{DirectiveLocation}
use Rattle.gql_ast.specs.declared.type_system.DirectiveDefinition.{DirectiveDefinition}
use Rattle.gql_ast.specs.declared.definition.Tree.{Tree}
use Rattle.gql_ast.specs.declared.definition.Tree.TheVariants as t
use Rattle.gql_built_in.specs.declared.sited.Sited.{Sited}

-- the place of what is in no file; places in files have lines from 1
abbrev pub nowhere : Place
nowhere = record { line = 0; column = 0; offset = 0 }

-- Name (2.1.9)
unfoldable pub word : List ℕ → Name
word text = record { place = nowhere; text = text }

-- NamedType (2.11)
unfoldable pub named : List ℕ → TypeRef
named text = r.Named (word text)

-- ListType (2.11)
unfoldable pub list : TypeRef → TypeRef
list item = r.List nowhere item

-- NonNullType (2.11)
unfoldable pub required : TypeRef → TypeRef
required nullable = r.NonNull nullable

-- [T!]
abbrev pub list_of : TypeRef → TypeRef
list_of item = list (required item)

-- [T!]!
abbrev pub required_list_of : TypeRef → TypeRef
required_list_of item = required (list_of item)

-- a boolean value (2.9.3)
unfoldable pub boolean_value : Bool → Literal
boolean_value value = e.Boolean nowhere value

-- a string value (2.9.4)
unfoldable pub string_value : List ℕ → Literal
string_value value = e.String nowhere value

-- InputValueDefinition: name, type and default (3.6.1)
unfoldable pub argument : List ℕ → TypeRef → Option Literal → InputValueDefinition
argument name type default = record
    { description = None; name = word name; of_type = type; default = default; directives = [] }

-- FieldDefinition: name, arguments and type (3.6)
unfoldable pub field_with : List ℕ → List InputValueDefinition → TypeRef → FieldDefinition
field_with name arguments type = record
    { description = None; name = word name; arguments = arguments; of_type = type; directives = [] }

-- a field without arguments
abbrev pub field : List ℕ → TypeRef → FieldDefinition
field name type = field_with name [] type

-- EnumValueDefinition (3.9)
unfoldable pub enum_value : List ℕ → EnumValueDefinition
enum_value name = record { description = None; name = word name; directives = [] }

-- TypeDefinition: name and parts (3.4)
unfoldable pub type_of : List ℕ → TypeParts → TypeDefinition
type_of name parts =
    record { place = nowhere; description = None; name = word name; directives = []; parts = parts }

-- ScalarTypeDefinition (3.5)
abbrev pub scalar : List ℕ → TypeDefinition
scalar name = type_of name p.Scalar

-- ObjectTypeDefinition: name and fields (3.6)
abbrev pub object_type : List ℕ → List FieldDefinition → TypeDefinition
object_type name fields = type_of name (p.Object [] fields)

-- EnumTypeDefinition: name and values (3.9)
abbrev pub enum_type : List ℕ → List (List ℕ) → TypeDefinition
enum_type name values = type_of name (p.Enum (map enum_value values))

-- DirectiveDefinition of a directive that is not repeatable: name, arguments and locations (3.13)
unfoldable pub directive : List ℕ → List InputValueDefinition → List DirectiveLocation
    → DirectiveDefinition
directive name arguments locations = record {
  place = nowhere;
  description = None;
  name = word name;
  arguments = arguments;
  is_repeatable = false;
  locations = locations;
}

-- a definition that is in no file
unfoldable pub of_no_file : Tree → Sited Tree
of_no_file tree = record { file = None; node = tree }

-- the definition of a type, in no file
abbrev pub a_type : TypeDefinition → Sited Tree
a_type definition = of_no_file (t.Type definition)

-- the definition of a directive, in no file
abbrev pub a_directive : DirectiveDefinition → Sited Tree
a_directive definition = of_no_file (t.Directive definition)
