-- The type that is expected of a value, as it is written (GraphQL specification, 2.11).
use Rattle.gql_types.specs.Written.{Written, named, written}
use Rattle.gql_types.specs.WrittenTypes.{typed}
use Rattle.gql_inputs.specs.declared.expected_type.ExpectedType.{ExpectedType}
use Rattle.gql_inputs.specs.declared.expected_type.ExpectedType.TheVariants as expected

-- the type in a file, or the one with this name and these wrappers around it
abbrev pub written_of : ExpectedType → Written
written_of (expected.Placed t) = written t.now
written_of (expected.Placeless steps name) = typed steps.now (named name.now)
