-- The required fields of an input object, by those of the inputs that its fields were made from.
use Rattle.std.proofs.Common.{◌≡◌, ℕ, List, Bool, Some, filter, map, length, slice_get, option_map, ap, ◌∙◌, sym}
use Rattle.std.proofs.lemmas.List.{length-map}
use Rattle.std.proofs.lemmas.List.Elements.{filter_agree}
use Rattle.std.proofs.lemmas.Option.{slice_get-map}
use Rattle.gql_types.proofs.Filtering.{filter_made}
use Rattle.gql_inputs.specs.Lookups.{FieldForm, is_required}

module _ {A : Type 0} (field : A → FieldForm) (test : A → Bool)
    (same : (x : A) → test x ≡ is_required (field x)) (xs : List A) where
  made : filter is_required (map field xs) ≡ map field (filter test xs)
  made = filter_made field is_required xs
      ∙ ap (map field) (sym (filter_agree test (λ x. is_required (field x)) same xs))

  -- there are as many
  pub required_count_of : length (filter is_required (map field xs)) ≡ length (filter test xs)
  required_count_of = ap length made ∙ length-map (filter test xs) field

  -- each is made from the one at its index
  pub required_at_of : (i : ℕ) (x : A) → slice_get (filter test xs) i ≡ Some x
      → slice_get (filter is_required (map field xs)) i ≡ Some (field x)
  required_at_of i x is = ap (λ fs. slice_get fs i) made
      ∙ slice_get-map field (filter test xs) i ∙ ap (option_map field) is
