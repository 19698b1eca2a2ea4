-- S19, Default Value Cycles: the default value of an input field needs itself (this registry's own
-- rule).
-- Reported at the field's name, about the field.
-- Where an object does not give a field, the field takes its default value, which is needed then.
-- A field whose value is a variable counts as not given, as in the coercion of a default value, in
-- which no variable has a value. (No default value that is parsed has one.)
use Rattle.std.specs.Prelude.{ℕ, suc, ◌+◌, List, [], ◌∷◌, ◌++◌, ◌&&◌, Bool, true, false, not, Option, is_some, Contains, map, flat_map, filter, find, length, bytes_eq, slice_get, if◌then◌else◌}
use Rattle.std.specs.List.{list_any}
use Rattle.std.specs.Option.{option_map_or}
use Rattle.gql_ast.specs.declared.fault.Fault.{Fault}
use Rattle.gql_ast.specs.declared.literal.Literal.{Literal, fold-Literal}
use Rattle.gql_ast.specs.declared.literal.Literal.TheOpen.{Literal-F, ObjectField-F}
use Rattle.gql_ast.specs.declared.literal.ObjectField.{ObjectField}
use Rattle.gql_ast.specs.declared.rule.Rule.TheVariants.{S19}
use Rattle.gql_ast.specs.declared.type_system.InputValueDefinition.{InputValueDefinition}
use Rattle.gql_built_in.specs.declared.sited.Sited.{Sited}
use Rattle.gql_cycles.specs.Nodes.{Trail}
use Rattle.gql_inputs.specs.InputTypes.{item_of, is_list, name_in}
use Rattle.gql_inputs.specs.Values.{Value, variable, value_of}
use Rattle.gql_faults.specs.Faults.{fault_of, own_name_of, where_known}
use Rattle.gql_cycles.specs.declared.cover.Range.{Range}
use Rattle.gql_types.specs.Kinds.{same_kind}
use Rattle.gql_types.specs.Possible.{name_of}
use Rattle.gql_types.specs.Written.{Written, written}
use Rattle.gql_types.specs.declared.kind.TypeKind.TheVariants.{InputObject}
use Rattle.gql_types.specs.declared.schema.Schema.{Schema}
use Rattle.gql_types.specs.declared.schema_type.SchemaType.{SchemaType}

-- ---- input fields, each by its number

-- the input objects among some types
abbrev pub input_objects : List SchemaType → List SchemaType
input_objects types = filter (λ (t : SchemaType). same_kind t.kind InputObject) types

-- the fields of these types
abbrev pub fields_of : List SchemaType → List (Sited InputValueDefinition)
fields_of types = flat_map (λ (t : SchemaType). t.input_fields) types

-- The fields of all input objects, type after type. The number of a field is its place in this
-- list.
abbrev pub all_inputs : Schema → List (Sited InputValueDefinition)
all_inputs s = fields_of (input_objects s.types)

-- an input field and its number
pub record Numbered : Type 0 where
  pub number : ℕ
  pub field : Sited InputValueDefinition

-- these input fields, numbered from n on
abbrev pub numbered_from : ℕ → List (Sited InputValueDefinition) → List Numbered
numbered_from n [] = []
numbered_from n (f ∷ fields) = record { number = n; field = f } ∷ numbered_from (suc n) fields

-- an input object and the numbers of its fields
pub record NumberedObject : Type 0 where
  pub of_type : SchemaType
  pub numbers : Range
  pub inputs : List Numbered

-- these input objects, with their fields numbered from n on
abbrev pub objects_from : ℕ → List SchemaType → List NumberedObject
objects_from n [] = []
objects_from n (t ∷ types) =
    record {
      of_type = t;
      numbers = record { start = n; end = n + length t.input_fields };
      inputs = numbered_from n t.input_fields;
    }
    ∷ objects_from (n + length t.input_fields) types

-- the input objects of a schema
abbrev pub objects : Schema → List NumberedObject
objects s = objects_from 0 (input_objects s.types)

-- the input object of this name
abbrev pub object_named : List NumberedObject → List ℕ → Option NumberedObject
object_named all name = find (λ (o : NumberedObject). bytes_eq name (name_of o.of_type)) all

-- ---- which defaults a value needs

-- whether a value is a variable
abbrev pub is_variable_value : Value → Bool
is_variable_value (variable place name) = true
is_variable_value _ = false

-- whether a literal is a variable
abbrev pub is_variable : Literal → Bool
is_variable x = is_variable_value (value_of x)

-- an object within a value: the input object that is its type, and the names of the fields that it
-- gives
pub record ObjectValue : Type 0 where
  pub input_object : NumberedObject
  pub names : List (List ℕ)

-- the objects within a value, by the type that is expected there, and by whether the value is an
-- item of a list
abbrev pub ObjectsAt : Type 0
ObjectsAt = Bool → Written → List ObjectValue

-- whether a value is a variable, and the objects within it
pub record Within : Type 0 where
  pub is_variable : Bool
  pub objects : ObjectsAt

-- a field of an object literal: its name, whether its value is a variable, and the objects within
-- its value
pub record Given : Type 0 where
  pub name : List ℕ
  pub is_variable : Bool
  pub value : ObjectsAt

-- the name of a field that counts as given
abbrev pub name_given : Given → List (List ℕ)
name_given f = if f.is_variable then [] else f.name ∷ []

-- the objects within the value of a field, by the type of the field of its name
abbrev pub values_in_field : SchemaType → Given → List ObjectValue
values_in_field t f = option_map_or
    (λ (d : Sited InputValueDefinition). f.value false (written d.node.of_type)) (find
    (λ (d : Sited InputValueDefinition). bytes_eq f.name d.node.name.text) t.input_fields) []

-- the objects within the fields of an object, and then the object itself
abbrev pub values_of_object : List Given → NumberedObject → List ObjectValue
values_of_object fields o = flat_map (values_in_field o.of_type) fields
    ++ record { input_object = o; names = flat_map name_given fields } ∷ []

-- The objects within an object literal, by the input object that the type names; where a list is
-- expected, it is made a list of one. An item is not made a list of one.
abbrev pub object_at : List NumberedObject → List Given → ObjectsAt
object_at all fields is_item t = if is_item && is_list t then []
    else option_map_or (values_of_object fields) (object_named all (name_in t)) []

-- the objects within a list, by the type of its items
abbrev pub list_at : List ObjectsAt → Written → List ObjectValue
list_at items t = option_map_or
    (λ item. flat_map (λ (x : ObjectsAt). x true item) items) (item_of t) []

-- the objects within a value of this form, from those within its parts
abbrev pub object_values_at : List NumberedObject → Literal-F Within Given → ObjectsAt
object_values_at all (Literal-F.Object place fields) is_item t = object_at all fields is_item t
object_values_at all (Literal-F.List place items) is_item t =
    list_at (map (λ (w : Within). w.objects) items) t
object_values_at all (Literal-F.Variable place name) is_item t = []
object_values_at all (Literal-F.Int place text) is_item t = []
object_values_at all (Literal-F.Float place text) is_item t = []
object_values_at all (Literal-F.String place value) is_item t = []
object_values_at all (Literal-F.Boolean place value) is_item t = []
object_values_at all (Literal-F.Null place) is_item t = []
object_values_at all (Literal-F.Enum place name) is_item t = []

-- whether a value of this form is a variable
abbrev pub is_variable_at : Literal-F Within Given → Bool
is_variable_at (Literal-F.Variable place name) = true
is_variable_at (Literal-F.Object place fields) = false
is_variable_at (Literal-F.List place items) = false
is_variable_at (Literal-F.Int place text) = false
is_variable_at (Literal-F.Float place text) = false
is_variable_at (Literal-F.String place value) = false
is_variable_at (Literal-F.Boolean place value) = false
is_variable_at (Literal-F.Null place) = false
is_variable_at (Literal-F.Enum place name) = false

-- what is within a value of this form, from what is within its parts
abbrev pub within_at : List NumberedObject → Literal-F Within Given → Within
within_at all x = record { is_variable = is_variable_at x; objects = object_values_at all x }

-- a field of an object literal, from what is within its value
abbrev pub given_in : ObjectField-F Within Given → Given
given_in f =
    record { name = f.name.text; is_variable = f.value.is_variable; value = f.value.objects }

-- what is within a value
unfoldable pub within : List NumberedObject → Literal → Within
within all = fold-Literal Within Given (within_at all) given_in

-- the objects within a value
unfoldable pub object_values : List NumberedObject → Literal → ObjectsAt
object_values all x = (within all x).objects

-- a field of an object literal, with the objects within its value
abbrev pub given : List NumberedObject → ObjectField → Given
given all f =
    record {
      name = f.name.text;
      is_variable = is_variable f.value;
      value = object_values all f.value;
    }

-- the name of a field of an object literal, if it counts as given
abbrev pub name_of_given : ObjectField → List (List ℕ)
name_of_given f = if is_variable f.value then [] else f.name.text ∷ []

-- whether a name is among these
abbrev pub is_among : List (List ℕ) → List ℕ → Bool
is_among names name = list_any (λ n. bytes_eq name n) names

-- the number of a field that has a default value and is not given
abbrev pub missing_default : List (List ℕ) → Numbered → List ℕ
missing_default names i = if is_some i.field.node.default
    && not (is_among names i.field.node.name.text) then i.number ∷ [] else []

-- the numbers of the fields whose default values an object needs
abbrev pub missing_defaults : ObjectValue → List ℕ
missing_defaults x = flat_map (missing_default x.names) x.input_object.inputs

-- ---- the rule

-- the objects within the default value of an input field
abbrev pub default_values : List NumberedObject → Sited InputValueDefinition → List ObjectValue
default_values all d = option_map_or
    (λ (x : Literal). object_values all x false (written d.node.of_type)) d.node.default []

-- the numbers of the fields whose default values that of an input field needs
abbrev pub default_needs : List NumberedObject → Sited InputValueDefinition → List ℕ
default_needs all d = flat_map missing_defaults (default_values all d)

-- at the number of each input field, the numbers of the fields whose default values its own needs
abbrev pub default_graph : Schema → List (List ℕ)
default_graph s = map (default_needs (objects s)) (all_inputs s)

-- the fault at the input field of this number
abbrev pub fault_at_number : List (Sited InputValueDefinition) → ℕ → List Fault
fault_at_number fields i = where_known (slice_get fields i) (λ (d : Sited InputValueDefinition).
    fault_of S19 (own_name_of (λ (v : InputValueDefinition). v.name) d))

-- a fault by S19: the default value of an input field leads back to itself
abbrev pub IsFault : Schema → Fault → Type 0
IsFault s f = (i : ℕ) × Trail (default_graph s) i i × Contains (fault_at_number (all_inputs s) i) f
