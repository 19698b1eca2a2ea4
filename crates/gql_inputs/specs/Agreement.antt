-- The names that a type leads to, and look-ups that agree on them: the faults of a value depend on
-- nothing else.
use Rattle.std.specs.Prelude.{◌≡◌, ℕ, List, Some, Contains}
use Rattle.gql_types.specs.Written.{Written}
use Rattle.gql_inputs.specs.InputTypes.{name_in}
use Rattle.gql_inputs.specs.Lookups.{FieldForm, InputLookup, input_object}

-- a name that a type leads to: the name within it; where that is an input object, the names within
-- the types of its fields; and so on
pub data LeadsTo (look : InputLookup) (t : Written) : List ℕ → Type 0 where
  itself : LeadsTo look t (name_in t)
  by_field : {n : List ℕ} {fields : List FieldForm} {f : FieldForm}
      → LeadsTo look t n → look n ≡ Some (input_object fields)
      → Contains fields f → LeadsTo look t (name_in f.of_type)

-- two look-ups give the same answer for each name that the type leads to by the first
abbrev pub Agree : InputLookup → InputLookup → Written → Type 0
Agree u v t = (n : List ℕ) → LeadsTo u t n → u n ≡ v n
