use Rattle.std.proofs.Common.{refl}
use Rattle.gql_built_in.specs.BuiltIn as spec
use Rattle.gql_built_in.proofs.introspection.introspection.Goals as goal

pub returns : goal.returns
unfolding spec.introspection
returns c = rw (
  c.in_ok-a_type-2.ensures,
  c.in_ok-directive_locations.ensures,
  c.in_ok-a_type.ensures,
  c.in_ok-type_kinds.ensures,
  c.in_ok-object-6.ensures,
  c.in_ok-fields_of_directive.ensures,
  c.in_ok-object-5.ensures,
  c.in_ok-fields_of_enum_value.ensures,
  c.in_ok-object-4.ensures,
  c.in_ok-fields_of_input_value.ensures,
  c.in_ok-object-3.ensures,
  c.in_ok-fields_of_field.ensures,
  c.in_ok-object-2.ensures,
  c.in_ok-fields_of_type.ensures,
  c.in_ok-object.ensures,
  c.in_ok-fields_of_schema.ensures,
  c.new-found.ensures,
)
    refl
