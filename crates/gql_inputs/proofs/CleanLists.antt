-- Lists of faults: there is one in the whole where there is one in a part.
use Rattle.std.proofs.Common.{◌≡◌, ◌+◌, ◌<◌, ℕ, List, true, false, Some, filter, take, drop, flat_map, slice_get, get_or, length, refl, sym, ap, ◌∙◌, arith}
use Rattle.std.proofs.lemmas.Grind.{common_steps, flat_map-append}
use Rattle.std.proofs.lemmas.List.{take-append-drop}
use Rattle.std.proofs.lemmas.List.Folds.{length-flat_map-take}
use Rattle.gql_text.specs.declared.place.Place.{Place}
use Rattle.gql_types.proofs.Filtering.{passes}
use Rattle.gql_inputs.specs.BadValues.{is_given, is_null_given, lacks, missing}
use Rattle.gql_inputs.specs.Lookups.{FieldForm, is_required}
use Rattle.gql_inputs.specs.NothingFound.{is_clean}
use Rattle.gql_inputs.specs.Values.{GivenField}
use Rattle.gql_inputs.specs.declared.bad_value.BadValue.{BadValue}
use Rattle.gql_inputs.proofs.MissingFields.{of_required, one_more}

module _ {A : Type 0} (find_in : A → List BadValue) where
  -- a fault that is found in one of a list is found in the list
  pub some_found : (xs : List A) (i : ℕ) (x : A) → slice_get xs i ≡ Some x → is_clean (find_in x) ≡ false → is_clean (flat_map find_in xs) ≡ false
  some_found xs i x at bad =
      let whole = ap (flat_map find_in) (sym (take-append-drop (i + 1) xs)) ∙ flat_map-append find_in (take (i + 1) xs) (drop (i + 1) xs) in
      let part = one_more find_in xs i x at in
      grind (arith, common_steps, whole, part, bad)

  -- the same, where the part is known as that at an index
  pub found_at : (xs : List A) (i : ℕ) (x : A) → x ≡ get_or xs i x → i < length xs → is_clean (find_in x) ≡ false → false ≡ is_clean (flat_map find_in xs)
  found_at xs i x is within bad =
      let most = length-flat_map-take find_in xs i x within in
      let same = ap (λ y. length (find_in y)) is in
      grind (arith, common_steps, most, same, bad)

-- a required field that is missing is found
pub missing_found : (place : Place) (given : List GivenField) (fields : List FieldForm) (i : ℕ) (f : FieldForm)
    → slice_get (filter is_required fields) i ≡ Some f → lacks (is_given given f.name) (is_null_given given f.name) ≡ true
    → is_clean (flat_map (missing place given) fields) ≡ false
missing_found place given fields i f at lacked = rw (sym (of_required place given fields))
    (some_found (missing place given) (filter is_required fields) i f at (rw (passes is_required fields i f at, lacked) refl))
