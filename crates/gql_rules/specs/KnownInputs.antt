-- What each name is as an input type, by the answers of a world (GraphQL 3.4.2, 3.5, 3.9 and 3.10).
use Rattle.std.specs.Prelude.{ℕ, List, map, Bool, Option, Some, None}
use Rattle.std.specs.Option.{option_map}
use Rattle.gql_types.specs.WrittenTypes.{typed_of}
use Rattle.gql_types.specs.declared.kind.TypeKind.{TypeKind}
use Rattle.gql_types.specs.declared.kind.TypeKind.TheVariants as kind
use Rattle.gql_facts.specs.Floats.{is_open_in}
use Rattle.gql_facts.specs.Worlds.{Facts}
use Rattle.gql_facts.specs.declared.fact.Fact.{Fact}
use Rattle.gql_facts.specs.declared.fact.Fact.TheVariants as fact
use Rattle.gql_facts.specs.declared.fact.InputFact.{InputFact}
use Rattle.gql_facts.specs.declared.key.Key.TheVariants as key
use Rattle.gql_inputs.specs.InputTypes.{scalar_named}
use Rattle.gql_inputs.specs.Lookups.{InputForm, scalar, enumeration, input_object, FieldForm, InputLookup}
use Rattle.gql_rules.specs.Answers.{kind_of}
use Rattle.gql_rules.specs.declared.known_inputs.KnownInputType.{KnownInputType}
use Rattle.gql_rules.specs.declared.known_inputs.KnownInputType.TheVariants as known

-- the fields of an input object that an answer gives
abbrev pub fields_in : Fact → Option (List InputFact)
fields_in (fact.Input fields) = Some fields
fields_in _ = None

-- the values of an enum that an answer gives
abbrev pub values_in : Fact → Option (List (List ℕ))
values_in (fact.Enum values) = Some values
values_in _ = None

-- a field of an input object, from the answer about it
abbrev pub field_of : InputFact → FieldForm
field_of i = record {
  name = i.name;
  of_type = typed_of i.of_type;
  has_default = i.has_default;
}

-- an input object with these fields
abbrev pub object_of : List InputFact → InputForm
object_of fields = input_object (map field_of fields)

-- an input type that is known
abbrev pub form_of : KnownInputType → InputForm
form_of (known.Scalar s) = scalar s
form_of (known.Enum values) = enumeration values
form_of (known.InputObject fields) = object_of fields

-- the type of this name and this kind; the two answers give the fields of an input object and the
-- values of an enum, and a custom scalar is open where Float is a type
abbrev pub form_by : Bool → List ℕ → Option TypeKind → Fact → Fact → Option InputForm
form_by floats name (Some kind.Scalar) fields values = Some (scalar (scalar_named floats name))
form_by floats name (Some kind.Enum) fields values = option_map enumeration (values_in values)
form_by floats name (Some kind.InputObject) fields values = option_map object_of (fields_in fields)
form_by floats name _ fields values = None

-- what each name is as an input type
abbrev pub known_inputs : Facts → InputLookup
known_inputs facts name = form_by (is_open_in facts) name (kind_of facts name)
    (facts (key.InputOf name)) (facts (key.EnumOf name))
