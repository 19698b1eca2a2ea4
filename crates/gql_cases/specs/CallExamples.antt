-- Examples: calls and values that are the same, and some that differ.
use Rattle.std.specs.Prelude.{ℕ, List, [], ◌∷◌, codes}
use Rattle.gql_text.specs.declared.place.Place.{Place}
use Rattle.gql_ast.specs.declared.literal.Argument.{Argument}
use Rattle.gql_ast.specs.declared.literal.Literal.TheVariants as l
use Rattle.gql_ast.specs.declared.literal.ObjectField.{ObjectField}
use Rattle.gql_cases.specs.SameCalls.{SameCall, SameValue}

-- an argument, and a field of an object, with this name and this whole number
abbrev pub argument : Place → List ℕ → List ℕ → Argument
argument p name number = record {
  name = record { place = p; text = name };
  value = l.Int p number;
}

abbrev pub field : Place → List ℕ → List ℕ → ObjectField
field p name number = record {
  name = record { place = p; text = name };
  value = l.Int p number;
}

abbrev pub a_1 : Place → Argument
a_1 p = argument p (codes "a") (codes "1")

abbrev pub a_2 : Place → Argument
a_2 p = argument p (codes "a") (codes "2")

abbrev pub b_2 : Place → Argument
b_2 p = argument p (codes "b") (codes "2")

abbrev pub p_1 : Place → ObjectField
p_1 p = field p (codes "p") (codes "1")

-- `f(a: 1, b: 2)` is the same call as `f(b: 2, a: 1)`
abbrev pub OrderDoesNotCount : Type 0
OrderDoesNotCount = (p : Place)
    → SameCall (codes "f") (a_1 p ∷ b_2 p ∷ []) (codes "f") (b_2 p ∷ a_1 p ∷ [])

-- `f(a: 1)` is not the same call as `f(a: 2)`
abbrev pub ValuesCount : Type 0
ValuesCount = (p : Place) → SameCall (codes "f") (a_1 p ∷ []) (codes "f") (a_2 p ∷ []) → ⊥

-- `{p: 1, p: 1}` is not the same value as `{p: 1}`
abbrev pub TwiceIsNotOnce : Type 0
TwiceIsNotOnce = (p : Place) → SameValue (l.Object p (p_1 p ∷ p_1 p ∷ [])) (l.Object p (p_1 p ∷ []))
    → ⊥

-- the enum value `A` is not the same value as the string `"A"`
abbrev pub EnumIsNotString : Type 0
EnumIsNotString = (p : Place) → SameValue (l.Enum p (codes "A")) (l.String p (codes "A")) → ⊥
