-- What every schema has: scalars (3.5), the types of introspection (4.2) and directives (3.13).
use Rattle.std.specs.Prelude.{Bool, List, [], ◌∷◌, ◌++◌, map, Some, None, false, codes, if◌then◌else◌}
use Rattle.gql_ast.specs.declared.type_ref.TypeRef.{TypeRef}
use Rattle.gql_ast.specs.declared.type_system.InputValueDefinition.{InputValueDefinition}
use Rattle.gql_ast.specs.declared.type_system.FieldDefinition.{FieldDefinition}
use Rattle.gql_ast.specs.declared.type_system.TypeDefinition.{TypeDefinition}
use Rattle.gql_ast.specs.declared.type_system.DirectiveLocation.{DirectiveLocation}
use Rattle.gql_ast.specs.declared.type_system.DirectiveLocation.TheVariants as l
use Rattle.gql_ast.specs.declared.type_system.DirectiveDefinition.{DirectiveDefinition}
use Rattle.gql_ast.specs.declared.definition.Tree.{Tree}
use Rattle.gql_built_in.specs.declared.sited.Sited.{Sited}
use Rattle.gql_built_in.specs.BuiltInWords.{named, required, list_of, required_list_of, boolean_value, string_value, argument, field, field_with, scalar, object_type, enum_type, directive, a_type, a_directive}

-- the type String
abbrev pub string : TypeRef
string = named (codes "String")

-- the type Boolean
abbrev pub boolean : TypeRef
boolean = named (codes "Boolean")

-- the type __Type (4.2.2)
abbrev pub type : TypeRef
type = named (codes "__Type")

-- Float (3.5.2), where it is served
abbrev pub float_in : Bool → List TypeDefinition
float_in floats = if floats then scalar (codes "Float") ∷ [] else []

-- the scalars of every schema (3.5), with Float or without it
unfoldable pub scalars : Bool → List TypeDefinition
scalars floats = scalar (codes "Int")
    ∷ scalar (codes "String")
    ∷ scalar (codes "Boolean")
    ∷ scalar (codes "ID")
    ∷ float_in floats

-- the fields of __Schema (4.2.1)
unfoldable pub fields_of_schema : List FieldDefinition
fields_of_schema = field (codes "description") string
    ∷ field (codes "types") (required_list_of type)
    ∷ field (codes "queryType") (required type)
    ∷ field (codes "mutationType") type
    ∷ field (codes "subscriptionType") type
    ∷ field (codes "directives") (required_list_of (named (codes "__Directive")))
    ∷ []

-- the arguments (includeDeprecated: Boolean = false)
unfoldable pub include_deprecated : List InputValueDefinition
include_deprecated = argument (codes "includeDeprecated") boolean (Some (boolean_value false)) ∷ []

-- the fields of __Type (4.2.2)
unfoldable pub fields_of_type : List FieldDefinition
fields_of_type = field (codes "kind") (required (named (codes "__TypeKind")))
    ∷ field (codes "name") string
    ∷ field (codes "description") string
    ∷ field_with (codes "fields") include_deprecated (list_of (named (codes "__Field")))
    ∷ field (codes "interfaces") (list_of type)
    ∷ field (codes "possibleTypes") (list_of type)
    ∷ field_with (codes "enumValues") include_deprecated (list_of (named (codes "__EnumValue")))
    ∷ field_with (codes "inputFields") include_deprecated
    (list_of (named (codes "__InputValue")))
    ∷ field (codes "ofType") type
    ∷ field (codes "specifiedByURL") string
    ∷ []

-- the fields of __Field (4.2.3)
unfoldable pub fields_of_field : List FieldDefinition
fields_of_field = field (codes "name") (required string)
    ∷ field (codes "description") string
    ∷ field_with (codes "args") include_deprecated
    (required_list_of (named (codes "__InputValue")))
    ∷ field (codes "type") (required type)
    ∷ field (codes "isDeprecated") (required boolean)
    ∷ field (codes "deprecationReason") string
    ∷ []

-- the fields of __InputValue (4.2.4)
unfoldable pub fields_of_input_value : List FieldDefinition
fields_of_input_value = field (codes "name") (required string)
    ∷ field (codes "description") string
    ∷ field (codes "type") (required type)
    ∷ field (codes "defaultValue") string
    ∷ field (codes "isDeprecated") (required boolean)
    ∷ field (codes "deprecationReason") string
    ∷ []

-- the fields of __EnumValue (4.2.5)
unfoldable pub fields_of_enum_value : List FieldDefinition
fields_of_enum_value = field (codes "name") (required string)
    ∷ field (codes "description") string
    ∷ field (codes "isDeprecated") (required boolean)
    ∷ field (codes "deprecationReason") string
    ∷ []

-- the fields of __Directive (4.2.6)
unfoldable pub fields_of_directive : List FieldDefinition
fields_of_directive = field (codes "name") (required string)
    ∷ field (codes "description") string
    ∷ field (codes "locations") (required_list_of (named (codes "__DirectiveLocation")))
    ∷ field_with (codes "args") include_deprecated
    (required_list_of (named (codes "__InputValue")))
    ∷ field (codes "isRepeatable") (required boolean)
    ∷ []

-- the enum __TypeKind (4.2.2)
unfoldable pub type_kinds : TypeDefinition
type_kinds = enum_type (codes "__TypeKind")
    (codes "SCALAR"
    ∷ codes "OBJECT"
    ∷ codes "INTERFACE"
    ∷ codes "UNION"
    ∷ codes "ENUM"
    ∷ codes "INPUT_OBJECT"
    ∷ codes "LIST"
    ∷ codes "NON_NULL"
    ∷ [])

-- the enum __DirectiveLocation (4.2.6)
unfoldable pub directive_locations : TypeDefinition
directive_locations = enum_type (codes "__DirectiveLocation")
    (codes "QUERY"
    ∷ codes "MUTATION"
    ∷ codes "SUBSCRIPTION"
    ∷ codes "FIELD"
    ∷ codes "FRAGMENT_DEFINITION"
    ∷ codes "FRAGMENT_SPREAD"
    ∷ codes "INLINE_FRAGMENT"
    ∷ codes "VARIABLE_DEFINITION"
    ∷ codes "SCHEMA"
    ∷ codes "SCALAR"
    ∷ codes "OBJECT"
    ∷ codes "FIELD_DEFINITION"
    ∷ codes "ARGUMENT_DEFINITION"
    ∷ codes "INTERFACE"
    ∷ codes "UNION"
    ∷ codes "ENUM"
    ∷ codes "ENUM_VALUE"
    ∷ codes "INPUT_OBJECT"
    ∷ codes "INPUT_FIELD_DEFINITION"
    ∷ [])

-- the types of introspection (4.2)
unfoldable pub introspection : List TypeDefinition
introspection = object_type (codes "__Schema") fields_of_schema
    ∷ object_type (codes "__Type") fields_of_type
    ∷ object_type (codes "__Field") fields_of_field
    ∷ object_type (codes "__InputValue") fields_of_input_value
    ∷ object_type (codes "__EnumValue") fields_of_enum_value
    ∷ object_type (codes "__Directive") fields_of_directive
    ∷ type_kinds
    ∷ directive_locations
    ∷ []

-- the locations FIELD | FRAGMENT_SPREAD | INLINE_FRAGMENT
abbrev pub selections : List DirectiveLocation
selections = l.Field ∷ l.FragmentSpread ∷ l.InlineFragment ∷ []

-- the arguments (if: Boolean!)
unfoldable pub condition : List InputValueDefinition
condition = argument (codes "if") (required boolean) None ∷ []

-- directive @skip(if: Boolean!) on FIELD | FRAGMENT_SPREAD | INLINE_FRAGMENT (3.13.1)
unfoldable pub skip : DirectiveDefinition
skip = directive (codes "skip") condition selections

-- directive @include(if: Boolean!) on FIELD | FRAGMENT_SPREAD | INLINE_FRAGMENT (3.13.2)
unfoldable pub include : DirectiveDefinition
include = directive (codes "include") condition selections

-- the arguments (reason: String = "No longer supported")
unfoldable pub reason : List InputValueDefinition
reason = argument (codes "reason") string (Some (string_value (codes "No longer supported"))) ∷ []

-- directive @deprecated(reason: String = "No longer supported") on FIELD_DEFINITION | ENUM_VALUE
-- (3.13.3), and on ARGUMENT_DEFINITION | INPUT_FIELD_DEFINITION, as editions after October 2021
-- have it
unfoldable pub deprecated : DirectiveDefinition
deprecated = directive (codes "deprecated") reason
    (l.FieldDefinition ∷ l.EnumValue ∷ l.ArgumentDefinition ∷ l.InputFieldDefinition ∷ [])

-- the arguments (url: String!)
unfoldable pub url : List InputValueDefinition
url = argument (codes "url") (required string) None ∷ []

-- directive @specifiedBy(url: String!) on SCALAR (3.13.4)
unfoldable pub specified_by : DirectiveDefinition
specified_by = directive (codes "specifiedBy") url (l.Scalar ∷ [])

-- the arguments (to: String!)
unfoldable pub to : List InputValueDefinition
to = argument (codes "to") (required string) None ∷ []

-- directive @append(to: String!) on FIELD_DEFINITION, which is this registry's own: a mutation's
-- field with it adds its arguments, as an object, to the list of this name
unfoldable pub append : DirectiveDefinition
append = directive (codes "append") to (l.FieldDefinition ∷ [])

-- the directives of every schema (3.13), and `@append`
unfoldable pub directives : List DirectiveDefinition
directives = skip ∷ include ∷ deprecated ∷ specified_by ∷ append ∷ []

-- the definitions that every schema has, with Float or without it
unfoldable pub built_in : Bool → List (Sited Tree)
built_in floats =
    map a_type (scalars floats) ++ map a_type introspection ++ map a_directive directives
