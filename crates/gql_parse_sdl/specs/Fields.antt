-- The interfaces and fields of objects (3.6) and of interfaces (3.7).
use Rattle.std.specs.Prelude.{List, [], true, codes}
use Rattle.gql_text.specs.declared.token.Kind.TheVariants as k
use Rattle.gql_ast.specs.declared.text.Name.{Name}
use Rattle.gql_ast.specs.declared.type_system.FieldDefinition.{FieldDefinition}
use Rattle.gql_grammar.specs.Symbol.{Phrase, Part, ◌>>=◌, ◌>>◌, pure, token, word, sees, sees_word, before, optional}
use Rattle.gql_grammar.specs.Repetition.{first_then, some_while}
use Rattle.gql_parse.specs.Names.{name}
use Rattle.gql_parse.specs.Types.{type_ref}
use Rattle.gql_parse.specs.Directives.{directives}
use Rattle.gql_parse_sdl.specs.Descriptions.{optional_description, text_of}
use Rattle.gql_parse_sdl.specs.InputValues.{optional_argument_definitions}

-- the & before the first of several names
unfoldable pub ampersand : Phrase (Unit {0})
ampersand = do
  token k.Ampersand
  pure tt

-- &?
abbrev pub optional_ampersand : Part (Unit {0})
optional_ampersand = optional (sees k.Ampersand) tt ampersand

-- & NamedType
unfoldable pub further_interface : Phrase Name
further_interface = do
  token k.Ampersand
  found ← name
  pure found

-- NamedType (& NamedType)*
abbrev pub interface_names : Phrase (List Name)
interface_names = first_then (sees k.Ampersand) name further_interface

-- ImplementsInterfaces: implements &? NamedType (& NamedType)* (3.6)
unfoldable pub implements : Phrase (List Name)
implements = do
  word (codes "implements")
  optional_ampersand
  found ← interface_names
  pure found

-- ImplementsInterfaces? (3.6)
abbrev pub optional_interfaces : Part (List Name)
optional_interfaces = optional (sees_word (codes "implements")) [] implements

-- FieldDefinition: Description? Name ArgumentsDefinition? : Type Directives?, with constant
-- directives (3.6)
unfoldable pub field : Phrase FieldDefinition
field = do
  described ← optional_description
  found ← name
  taken ← optional_argument_definitions
  token k.Colon
  of ← type_ref
  applied ← directives true
  pure (record {
    description = text_of described;
    name = found;
    arguments = taken;
    of_type = of;
    directives = applied;
  })

-- FieldsDefinition: { FieldDefinition+ } (3.6)
unfoldable pub fields : Phrase (List FieldDefinition)
fields = do
  token k.LeftBrace
  found ← some_while (before k.RightBrace) field
  token k.RightBrace
  pure found

-- FieldsDefinition? (3.6)
abbrev pub optional_fields : Part (List FieldDefinition)
optional_fields = optional (sees k.LeftBrace) [] fields
