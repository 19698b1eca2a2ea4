-- Fields that are missing, by what is known of the names that are given, and one field after the
-- other.
use Rattle.std.proofs.Common.{◌≡◌, ◌+◌, ◌++◌, ℕ, List, [], Bool, false, Some, filter, take, flat_map, slice_get, refl, sym, arith}
use Rattle.std.proofs.lemmas.Grind.{common_steps}
use Rattle.std.proofs.lemmas.Option.{slice_get_within, get_or_from_slice_get}
use Rattle.gql_text.specs.declared.place.Place.{Place}
use Rattle.gql_types.proofs.Filtering.{found_in_these}
use Rattle.gql_inputs.specs.BadValues.{is_given, is_null_given, lacks, missing, missing_if}
use Rattle.gql_inputs.specs.Lookups.{FieldForm, is_required}
use Rattle.gql_inputs.specs.Values.{GivenField}

pub same_missing : {a b given null : Bool} (place : Place) (f : FieldForm) → a ≡ given → b ≡ null → missing_if (lacks a b) place f ≡ missing_if (lacks given null) place f
same_missing place f e h = rw (e, h) refl

-- what is found in one more of a list
pub one_more : {A B : Type 0} (find_in : A → List B) (xs : List A) (i : ℕ) (x : A) → slice_get xs i ≡ Some x
    → flat_map find_in (take (i + 1) xs) ≡ flat_map find_in (take i xs) ++ find_in x
one_more find_in xs i x e = let within = slice_get_within xs i x e in let is = get_or_from_slice_get xs i x x e in grind (arith, common_steps, within, is)

-- among the required fields are all that are missing
pub of_required : (place : Place) (given : List GivenField) (fields : List FieldForm)
    → flat_map (missing place given) (filter is_required fields) ≡ flat_map (missing place given) fields
of_required place given = found_in_these is_required (missing place given) (λ f h. rw h refl)

-- a required field that is not missing
pub not_missing : (place : Place) (given : List GivenField) (f : FieldForm) → lacks (is_given given f.name) (is_null_given given f.name) ≡ false → missing place given f ≡ []
not_missing place given f e = grind (arith, common_steps, e)

-- whether a field is missing, by what is known of the names that are given
pub lacks_at : {a b answer : Bool} {q name : List ℕ} (given : List GivenField) → q ≡ name → a ≡ is_given given q → b ≡ is_null_given given q → lacks a b ≡ answer
    → lacks (is_given given name) (is_null_given given name) ≡ answer
lacks_at given same e h is = rw (sym same, sym e, sym h) is
