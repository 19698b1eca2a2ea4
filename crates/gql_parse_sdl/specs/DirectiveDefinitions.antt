-- Directive definitions (3.13).
use Rattle.std.specs.Prelude.{ℕ, List, Option, Some, None, Bool, true, false, bytes_eq, codes, if◌then◌else◌}
use Rattle.gql_text.specs.declared.token.Kind.TheVariants as k
use Rattle.gql_ast.specs.declared.type_system.DirectiveLocation.{DirectiveLocation}
use Rattle.gql_ast.specs.declared.type_system.DirectiveLocation.TheVariants as l
use Rattle.gql_ast.specs.declared.type_system.DirectiveDefinition.{DirectiveDefinition}
use Rattle.gql_grammar.specs.Symbol.{Phrase, Part, ◌>>=◌, ◌>>◌, pure, refuse, token, word, sees, sees_word, optional}
use Rattle.gql_grammar.specs.Repetition.{first_then}
use Rattle.gql_parse.specs.Names.{name}
use Rattle.gql_parse_sdl.specs.declared.description.Description.{Description}
use Rattle.gql_parse_sdl.specs.Words.{by_text}
use Rattle.gql_parse_sdl.specs.Descriptions.{start, text_of}
use Rattle.gql_parse_sdl.specs.InputValues.{optional_argument_definitions}
use Rattle.gql_parse_sdl.specs.Unions.{optional_pipe}

-- the ExecutableDirectiveLocation of this name
abbrev pub executable_location : List ℕ → Option DirectiveLocation
executable_location text =
    if bytes_eq text (codes "QUERY") then Some l.Query
    else if bytes_eq text (codes "MUTATION") then Some l.Mutation
    else if bytes_eq text (codes "SUBSCRIPTION") then Some l.Subscription
    else if bytes_eq text (codes "FIELD") then Some l.Field
    else if bytes_eq text (codes "FRAGMENT_DEFINITION") then Some l.FragmentDefinition
    else if bytes_eq text (codes "FRAGMENT_SPREAD") then Some l.FragmentSpread
    else if bytes_eq text (codes "INLINE_FRAGMENT") then Some l.InlineFragment
    else if bytes_eq text (codes "VARIABLE_DEFINITION") then Some l.VariableDefinition
    else None

-- the TypeSystemDirectiveLocation of this name
abbrev pub type_system_location : List ℕ → Option DirectiveLocation
type_system_location text =
    if bytes_eq text (codes "SCHEMA") then Some l.Schema
    else if bytes_eq text (codes "SCALAR") then Some l.Scalar
    else if bytes_eq text (codes "OBJECT") then Some l.Object
    else if bytes_eq text (codes "FIELD_DEFINITION") then Some l.FieldDefinition
    else if bytes_eq text (codes "ARGUMENT_DEFINITION") then Some l.ArgumentDefinition
    else if bytes_eq text (codes "INTERFACE") then Some l.Interface
    else if bytes_eq text (codes "UNION") then Some l.Union
    else if bytes_eq text (codes "ENUM") then Some l.Enum
    else if bytes_eq text (codes "ENUM_VALUE") then Some l.EnumValue
    else if bytes_eq text (codes "INPUT_OBJECT") then Some l.InputObject
    else if bytes_eq text (codes "INPUT_FIELD_DEFINITION") then Some l.InputFieldDefinition
    else None

-- the first location if there is one, else the second
abbrev pub or_else : Option DirectiveLocation → Option DirectiveLocation → Option DirectiveLocation
or_else (Some found) other = Some found
or_else None other = other

-- the location of this name, of the nineteen
abbrev pub location_named : List ℕ → Option DirectiveLocation
location_named text = or_else (executable_location text) (type_system_location text)

-- a name, read as this location
unfoldable pub location_at : DirectiveLocation → Phrase DirectiveLocation
location_at found = do
  token k.Name
  pure found

-- a name, read as this location; a name of no location is refused
abbrev pub location_by : Option DirectiveLocation → Phrase DirectiveLocation
location_by (Some found) = location_at found
location_by None = refuse

-- DirectiveLocation: ExecutableDirectiveLocation or TypeSystemDirectiveLocation
abbrev pub location : Phrase DirectiveLocation
location = by_text (λ text. location_by (location_named text))

-- | DirectiveLocation
unfoldable pub further_location : Phrase DirectiveLocation
further_location = do
  token k.Pipe
  found ← location
  pure found

-- DirectiveLocation (| DirectiveLocation)*
abbrev pub location_names : Phrase (List DirectiveLocation)
location_names = first_then (sees k.Pipe) location further_location

-- the word repeatable
unfoldable pub repeatable : Phrase Bool
repeatable = do
  word (codes "repeatable")
  pure true

-- repeatable?, as whether it is there
abbrev pub optional_repeatable : Part Bool
optional_repeatable = optional (sees_word (codes "repeatable")) false repeatable

-- DirectiveLocations: on |? DirectiveLocation (| DirectiveLocation)*
unfoldable pub locations : Phrase (List DirectiveLocation)
locations = do
  word (codes "on")
  optional_pipe
  found ← location_names
  pure found

-- DirectiveDefinition, from the token after its description (3.13):
-- directive @ Name ArgumentsDefinition? repeatable? DirectiveLocations
unfoldable pub directive_definition : Option Description → Phrase DirectiveDefinition
directive_definition described = do
  mark ← word (codes "directive")
  token k.At
  found ← name
  taken ← optional_argument_definitions
  again ← optional_repeatable
  places ← locations
  pure (record {
    place = start described mark.place;
    description = text_of described;
    name = found;
    arguments = taken;
    is_repeatable = again;
    locations = places;
  })
