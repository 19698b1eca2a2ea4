-- Worked examples of V29: those of the specification (GraphQL 5.8.5), and cases that only just
-- differ from them.
use Rattle.std.specs.Prelude.{◌≡◌, true, false, codes, refl}
use Rattle.gql_types.specs.Written.{Written, named, listed, required}
use Rattle.gql_vars.specs.Usages.{Location}
use Rattle.gql_vars.specs.V29AllVariableUsagesAreAllowed.{fits, allows}

-- the type `Int`
abbrev int : Written
int = named (codes "Int")

-- the type `Boolean`
abbrev boolean : Written
boolean = named (codes "Boolean")

-- the type `String`
abbrev string : Written
string = named (codes "String")

-- a location of this type without a default value
abbrev at : Written → Location
at t = record { expected = t; has_default = false }

-- a location of this type with a default value
abbrev with_default : Written → Location
with_default t = record { expected = t; has_default = true }

-- `$n: Int` at `Int!` is refused, and `$n: Int!` is allowed at `Int!` and at `Int`
int_at_non_null : allows int false (at (required int)) ≡ false
int_at_non_null = refl

non_null_at_non_null : allows (required int) false (at (required int)) ≡ true
non_null_at_non_null = refl

non_null_at_int : allows (required int) false (at int) ≡ true
non_null_at_int = refl

-- `$n: Int = 1` at `Int!` is allowed; a default value of null does not count
int_with_a_default : allows int true (at (required int)) ≡ true
int_with_a_default = refl

-- so is `$n: Int` where the location has a default value, but not `$n: [Int]` or `$n: Boolean`
location_with_a_default : allows int false (with_default (required int)) ≡ true
location_with_a_default = refl

list_at_a_default : allows (listed int) false (with_default (required int)) ≡ false
list_at_a_default = refl

other_at_a_default : allows boolean false (with_default (required int)) ≡ false
other_at_a_default = refl

-- `$n: [String]` at `[String!]` is refused, whatever has a default value; the other way round it is
-- allowed
items_at_non_null : allows (listed string) true (with_default (listed (required string))) ≡ false
items_at_non_null = refl

non_null_items : allows (listed (required string)) false (at (listed string)) ≡ true
non_null_items = refl

-- `$n: [String!]` at `[String!]!` takes a default value of the variable
list_with_a_default :
    allows (listed (required string)) true (at (required (listed (required string)))) ≡ true
list_with_a_default = refl

list_without_one :
    allows (listed (required string)) false (at (required (listed (required string)))) ≡ false
list_without_one = refl

-- `Boolean` and `[Boolean]` fit neither way: a variable is not made a list of one
one_at_a_list : fits boolean (listed boolean) ≡ false
one_at_a_list = refl

a_list_at_one : fits (listed boolean) boolean ≡ false
a_list_at_one = refl

list_of_lists : fits (listed boolean) (listed (listed boolean)) ≡ false
list_of_lists = refl

-- names are compared by their bytes
other_case : fits int (named (codes "int")) ≡ false
other_case = refl

-- an ID does not take an Int
int_at_id : fits int (named (codes "ID")) ≡ false
int_at_id = refl
