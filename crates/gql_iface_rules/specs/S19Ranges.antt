-- Helper definitions for private contracts: the fields that the objects within a default value do
-- not give, as ranges of numbers.
use Rattle.std.specs.Prelude.{◌+◌, ◌↔◌, ◌&&◌, ℕ, List, [], ◌∷◌, nat_le, nat_lt, flat_map, find, bytes_eq, Contains, if◌then◌else◌}
use Rattle.std.specs.Option.{option_map_or}
use Rattle.gql_iface_rules.specs.S19DefaultValueCycles.{Numbered, ObjectValue}
use Rattle.gql_cycles.specs.Cover.{IsWithin, IsWithinAny}
use Rattle.gql_cycles.specs.declared.cover.Range.{Range}

-- the number of the first field of a name
abbrev pub first_number : List Numbered → List ℕ → List ℕ
first_number inputs name = option_map_or
    (λ (i : Numbered). i.number ∷ []) (find
    (λ (i : Numbered). bytes_eq name i.field.node.name.text) inputs) []

-- the numbers of the first fields of the names that an object gives
abbrev pub given_numbers : ObjectValue → List ℕ
given_numbers x = flat_map (first_number x.input_object.inputs) x.names

-- the numbers from `start` on that are before `number`, if `number` is from `start` on and before
-- `end`
abbrev pub gap_before : ℕ → ℕ → ℕ → List Range
gap_before start number end = if nat_le start number && nat_lt number end
    then record { start = start; end = number } ∷ [] else []

-- where the numbers after such a `number` start
abbrev pub start_after : ℕ → ℕ → ℕ → ℕ
start_after start number end = if nat_le start number && nat_lt number end then number + 1
    else start

-- a number of the range that is not one of the given ones
abbrev pub IsLeft : Range → List ℕ → ℕ → Type 0
IsLeft r given p = IsWithin r p × (Contains given p → ⊥)

-- the number of a field of an object's type, where no field of that number is given
abbrev pub IsMissing : ObjectValue → ℕ → Type 0
IsMissing x p = IsLeft x.input_object.numbers (given_numbers x) p

-- the ranges have exactly the numbers of the fields that one of these objects does not give
abbrev pub AreMissing : List ObjectValue → List Range → Type 0
AreMissing xs ranges = (p : ℕ) → IsWithinAny ranges p
    ↔ ((x : ObjectValue) × Contains xs x × IsMissing x p)
