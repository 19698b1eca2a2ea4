-- Helper definitions for private contracts: what is expected of the items of a list, as Rust code
-- has it.
use Rattle.gql_types.specs.Written.{written}
use Rattle.gql_coerce.specs.Coercion.{Expected, nothing, anything, this}
use Rattle.gql_coerce.specs.declared.expected.Expected.{Expected as AnExpected}
use Rattle.gql_coerce.specs.declared.expected.Expected.TheVariants as expected

-- what is expected, as specifications see it
abbrev pub expected_of : AnExpected → Expected
expected_of expected.Nothing = nothing
expected_of expected.Anything = anything
expected_of (expected.Type t) = this (written t.now)
