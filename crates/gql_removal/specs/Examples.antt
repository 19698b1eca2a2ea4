-- Worked examples of removals.
use Rattle.std.specs.Prelude.{◌≡◌, [], ◌∷◌, codes, false, refl}
use Rattle.gql_facts.specs.declared.fact.Fact.TheVariants as fact
use Rattle.gql_facts.specs.declared.fact.FieldFact.{FieldFact}
use Rattle.gql_facts.specs.declared.fact.InputFact.{InputFact}
use Rattle.gql_facts.specs.declared.key.Key.TheVariants as key
use Rattle.gql_removal.specs.Removals.{left}
use Rattle.gql_removal.specs.declared.removal.Removal.TheVariants as removal
use Rattle.gql_types.specs.Written.{named}
use Rattle.gql_types.specs.WrittenTypes.{type_of}

-- the argument `first: Int`
abbrev first : InputFact
first = record { name = codes "first"; of_type = type_of (named (codes "Int")); has_default = false }

-- a field of the type User, with that argument
abbrev users : FieldFact
users = record { of_type = type_of (named (codes "User")); arguments = first ∷ [] }

-- a type goes out of the unions that have it
member : left (removal.«Type» (codes "A")) (key.PossibleOf (codes "U"))
    (fact.Possible (codes "A" ∷ codes "B" ∷ [])) ≡ fact.Possible (codes "B" ∷ [])
member = refl

-- a field goes with its type
field_of_type : left (removal.«Type» (codes "User")) (key.FieldOf (codes "Query") (codes "users"))
    (fact.Field users) ≡ fact.Absent
field_of_type = refl

-- an argument goes with its type, and the field stays
argument_of_type : left (removal.«Type» (codes "Int")) (key.FieldOf (codes "Query") (codes "users"))
    (fact.Field users) ≡ fact.Field (record { of_type = type_of (named (codes "User")); arguments = [] })
argument_of_type = refl

-- a value goes out of its enum, and out of no other
value : left (removal.EnumValue (codes "Sort") (codes "UP")) (key.EnumOf (codes "Sort"))
    (fact.Enum (codes "UP" ∷ codes "DOWN" ∷ [])) ≡ fact.Enum (codes "DOWN" ∷ [])
value = refl

other_value : left (removal.EnumValue (codes "Sort") (codes "UP")) (key.EnumOf (codes "Way"))
    (fact.Enum (codes "UP" ∷ [])) ≡ fact.Enum (codes "UP" ∷ [])
other_value = refl

-- a directive that is removed is not there
directive : left (removal.Directive (codes "old")) (key.DirectiveOf (codes "old")) (fact.Absent)
    ≡ fact.Absent
directive = refl
