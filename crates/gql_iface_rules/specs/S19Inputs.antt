-- Helper definitions for private contracts: input fields and input objects, as Rust code has them.
use Rattle.std.specs.Prelude.{map, flat_map}
use Rattle.gql_iface_rules.specs.S19DefaultValueCycles.{Numbered, NumberedObject, ObjectValue as TheObjectValue, name_of_given}
use Rattle.gql_iface_rules.specs.declared.s19_inputs.InputObject.{InputObject}
use Rattle.gql_iface_rules.specs.declared.s19_inputs.NumberedInput.{NumberedInput}
use Rattle.gql_iface_rules.specs.declared.s19_object_values.ObjectValue.{ObjectValue}

-- an input field and its number, as specifications see it
abbrev pub numbered : NumberedInput → Numbered
numbered i = record { number = i.number; field = i.field.now }

-- an input object and the numbers of its fields, as specifications see it
abbrev pub object : InputObject → NumberedObject
object o = record { of_type = o.of_type.now; numbers = o.numbers; inputs = map numbered o.inputs }

-- an object within a value, as specifications see it
abbrev pub object_value : ObjectValue → TheObjectValue
object_value x = record {
  input_object = object x.input_object.now;
  names = flat_map name_of_given x.fields.now;
}
