-- The definitions of types (3.4).
use Rattle.std.specs.Prelude.{ℕ, List, Option, Some, None, true, bytes_eq, codes, if◌then◌else◌}
use Rattle.gql_ast.specs.declared.type_system.TypeDefinition.{TypeDefinition}
use Rattle.gql_ast.specs.declared.type_system.TypeParts.TheVariants as parts
use Rattle.gql_grammar.specs.Symbol.{Phrase, Part, ◌>>=◌, pure, word}
use Rattle.gql_parse.specs.Names.{name}
use Rattle.gql_parse.specs.Directives.{directives}
use Rattle.gql_parse_sdl.specs.declared.description.Description.{Description}
use Rattle.gql_parse_sdl.specs.declared.type_keyword.TypeKeyword.{TypeKeyword}
use Rattle.gql_parse_sdl.specs.declared.type_keyword.TypeKeyword.TheVariants as w
use Rattle.gql_parse_sdl.specs.declared.type_body.TypeBody.{TypeBody}
use Rattle.gql_parse_sdl.specs.Descriptions.{start, text_of}
use Rattle.gql_parse_sdl.specs.InputValues.{optional_input_fields}
use Rattle.gql_parse_sdl.specs.Fields.{optional_interfaces, optional_fields}
use Rattle.gql_parse_sdl.specs.Unions.{optional_members}
use Rattle.gql_parse_sdl.specs.Enums.{optional_enum_values}

-- the keyword of this text, if it begins the definition of a type
abbrev pub type_keyword : List ℕ → Option TypeKeyword
type_keyword text =
    if bytes_eq text (codes "scalar") then Some w.Scalar
    else if bytes_eq text (codes "type") then Some w.Object
    else if bytes_eq text (codes "interface") then Some w.Interface
    else if bytes_eq text (codes "union") then Some w.Union
    else if bytes_eq text (codes "enum") then Some w.Enum
    else if bytes_eq text (codes "input") then Some w.InputObject
    else None

-- the text of a keyword
abbrev pub spelling : TypeKeyword → List ℕ
spelling w.Scalar = codes "scalar"
spelling w.Object = codes "type"
spelling w.Interface = codes "interface"
spelling w.Union = codes "union"
spelling w.Enum = codes "enum"
spelling w.InputObject = codes "input"

-- ScalarTypeDefinition, after its name: Directives? (3.5)
unfoldable pub scalar_body : Part TypeBody
scalar_body = do
  applied ← directives true
  pure (record { directives = applied; parts = parts.Scalar })

-- ObjectTypeDefinition, after its name: ImplementsInterfaces? Directives? FieldsDefinition? (3.6)
unfoldable pub object_body : Part TypeBody
object_body = do
  kept ← optional_interfaces
  applied ← directives true
  found ← optional_fields
  pure (record { directives = applied; parts = parts.Object kept found })

-- InterfaceTypeDefinition, after its name: ImplementsInterfaces? Directives? FieldsDefinition?
-- (3.7)
unfoldable pub interface_body : Part TypeBody
interface_body = do
  kept ← optional_interfaces
  applied ← directives true
  found ← optional_fields
  pure (record { directives = applied; parts = parts.Interface kept found })

-- UnionTypeDefinition, after its name: Directives? UnionMemberTypes? (3.8)
unfoldable pub union_body : Part TypeBody
union_body = do
  applied ← directives true
  found ← optional_members
  pure (record { directives = applied; parts = parts.Union found })

-- EnumTypeDefinition, after its name: Directives? EnumValuesDefinition? (3.9)
unfoldable pub enum_body : Part TypeBody
enum_body = do
  applied ← directives true
  found ← optional_enum_values
  pure (record { directives = applied; parts = parts.Enum found })

-- InputObjectTypeDefinition, after its name: Directives? InputFieldsDefinition? (3.10)
unfoldable pub input_object_body : Part TypeBody
input_object_body = do
  applied ← directives true
  found ← optional_input_fields
  pure (record { directives = applied; parts = parts.InputObject found })

-- TypeDefinition with this keyword, after its name
abbrev pub body : TypeKeyword → Part TypeBody
body w.Scalar = scalar_body
body w.Object = object_body
body w.Interface = interface_body
body w.Union = union_body
body w.Enum = enum_body
body w.InputObject = input_object_body

-- TypeDefinition, from the token after its description: its keyword, Name, and the rest (3.4)
unfoldable pub type_definition : Option Description → TypeKeyword → Phrase TypeDefinition
type_definition described keyword = do
  mark ← word (spelling keyword)
  found ← name
  rest ← body keyword
  pure (record {
    place = start described mark.place;
    description = text_of described;
    name = found;
    directives = rest.directives;
    parts = rest.parts;
  })
