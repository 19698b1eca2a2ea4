-- Helper definitions for private contracts: default values that hold no object.
use Rattle.std.specs.Prelude.{◌≡◌, List, [], Bool}
use Rattle.std.specs.List.{All}
use Rattle.gql_ast.specs.declared.literal.Literal.{Literal}
use Rattle.gql_ast.specs.declared.type_system.InputValueDefinition.{InputValueDefinition}
use Rattle.gql_built_in.specs.declared.sited.Sited.{Sited}
use Rattle.gql_iface_rules.specs.S19DefaultValueCycles.{NumberedObject, object_values, default_values}
use Rattle.gql_types.specs.Written.{Written}
use Rattle.gql_types.specs.declared.schema_type.SchemaType.{SchemaType}

-- no object is within the value, whatever type is expected
abbrev pub HoldsNone : Literal → Type 0
HoldsNone x = (all : List NumberedObject) (is_item : Bool) (t : Written)
    → object_values all x is_item t ≡ []

-- no object is within the default value of an input field
abbrev pub NeedsNone : Sited InputValueDefinition → Type 0
NeedsNone d = (all : List NumberedObject) → default_values all d ≡ []

-- the same of each input field of a type
abbrev pub TypeNeedsNone : SchemaType → Type 0
TypeNeedsNone t = All NeedsNone t.input_fields
