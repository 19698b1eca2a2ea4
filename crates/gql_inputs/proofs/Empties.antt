-- Values in which nothing is found.
use Rattle.std.proofs.Common.{◌≡◌, ◌++◌, ℕ, List, [], ◌∷◌, true, map, sym, ap, ◌∙◌, refl, append-nil}
use Rattle.gql_text.specs.declared.place.Place.{Place}
use Rattle.gql_ast.specs.declared.literal.Literal.{Literal}
use Rattle.gql_ast.specs.declared.literal.Literal.TheVariants as l
use Rattle.gql_ast.specs.declared.literal.ObjectField.{ObjectField}
use Rattle.gql_ast.specs.declared.text.Name.{Name}
use Rattle.gql_types.specs.Written.{Written}
use Rattle.gql_inputs.specs.BadValues.{scalar_takes_float, scalar_takes_int, within, repeats, misfits}
use Rattle.gql_inputs.specs.Lookups.{InputLookup}
use Rattle.gql_inputs.specs.Values.{GivenField, given_field, value_of}
use Rattle.gql_inputs.specs.declared.bad_value.BadValue.{BadValue}
use Rattle.gql_inputs.specs.declared.scalar.Scalar.{Scalar}
use Rattle.gql_inputs.proofs.Inside.{within_float, within_int}

pub nothing : (xs : List BadValue) (s : Scalar) (name : List ℕ) (x : Literal) → within s name (value_of x) ≡ [] → xs ≡ xs ++ within s name (value_of x)
nothing xs s name x is = rw is (sym (append-nil xs))

pub nothing_in_range : (xs : List BadValue) (s : Scalar) (name : List ℕ) (place : Place) (text : List ℕ) → scalar_takes_int text s ≡ true → xs ≡ xs ++ within s name (value_of (l.Int place text))
nothing_in_range xs s name place text is = nothing xs s name (l.Int place text) (within_int s name place text ∙ rw is refl)

pub nothing_of_a_float : (xs : List BadValue) (s : Scalar) (name : List ℕ) (place : Place) (text : List ℕ) → scalar_takes_float text s ≡ true → xs ≡ xs ++ within s name (value_of (l.Float place text))
nothing_of_a_float xs s name place text is = nothing xs s name (l.Float place text) (within_float s name place text ∙ rw is refl)

pub no_repeats : (xs : List BadValue) (x : Literal) → repeats (value_of x) ≡ [] → xs ≡ xs ++ repeats (value_of x)
no_repeats xs x is = rw is (sym (append-nil xs))

pub no_misfits : (xs : List BadValue) (look : InputLookup) (t : Written) (x : Literal) → misfits look t (value_of x) ≡ [] → xs ≡ xs ++ misfits look t (value_of x)
no_misfits xs look t x is = rw is (sym (append-nil xs))

-- the fields that a literal gives have its names
pub names_of : (fields : List ObjectField) → map (λ (g : GivenField). g.name) (map given_field fields) ≡ map (λ (f : ObjectField). f.name) fields
names_of [] = refl
names_of (f ∷ fields) = ap (λ (ns : List Name). f.name ∷ ns) (names_of fields)
