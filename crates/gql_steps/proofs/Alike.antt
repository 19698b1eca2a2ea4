-- What is the same as each form of a value.
use Rattle.std.proofs.Common.{◌≡◌, ◌&&◌, ℕ, suc, List, [], ◌∷◌, Bool, true, false, length, is_some, bytes_eq, refl, sym, ap, ◌∙◌}
use Rattle.std.specs.Bool.{beq}
use Rattle.std.specs.Option.{option_map_or}
use Rattle.serde_json.specs.Data as json
use Rattle.serde_json.specs.Data.{Data, Num, Items, Members, item, no_items}
use Rattle.serde_json.specs.Find.{as_null, as_bool, as_number, as_str, as_array, as_object}
use Rattle.serde_json.specs.View.{items_of}
use Rattle.gql_steps.specs.Resolution as numbers
use Rattle.gql_steps.specs.Resolution.{same_data, same_items, same_members}

pub same_null : (d : Data) → same_data json.null d ≡ is_some (as_null d)
same_null json.null = refl
same_null (json.boolean b) = refl
same_null (json.number n) = refl
same_null (json.string s) = refl
same_null (json.array ds) = refl
same_null (json.object ms) = refl

pub same_truth : (b : Bool) (d : Data) → same_data (json.boolean b) d ≡ option_map_or (beq b) (as_bool d) false
same_truth b json.null = refl
same_truth b (json.boolean c) = refl
same_truth b (json.number n) = refl
same_truth b (json.string s) = refl
same_truth b (json.array ds) = refl
same_truth b (json.object ms) = refl

pub same_number : (n : Num) (d : Data) → same_data (json.number n) d ≡ option_map_or (numbers.same_number n) (as_number d) false
same_number n json.null = refl
same_number n (json.boolean b) = refl
same_number n (json.number m) = refl
same_number n (json.string s) = refl
same_number n (json.array ds) = refl
same_number n (json.object ms) = refl

pub same_text : (t : List ℕ) (d : Data) → same_data (json.string t) d ≡ option_map_or (bytes_eq t) (as_str d) false
same_text t json.null = refl
same_text t (json.boolean b) = refl
same_text t (json.number n) = refl
same_text t (json.string s) = refl
same_text t (json.array ds) = refl
same_text t (json.object ms) = refl

pub same_array : (xs : Items) (d : Data) → same_data (json.array xs) d ≡ option_map_or (same_items xs) (as_array d) false
same_array xs json.null = refl
same_array xs (json.boolean b) = refl
same_array xs (json.number n) = refl
same_array xs (json.string s) = refl
same_array xs (json.array ds) = refl
same_array xs (json.object ms) = refl

pub same_object : (xs : Members) (d : Data) → same_data (json.object xs) d ≡ option_map_or (same_members xs) (as_object d) false
same_object xs json.null = refl
same_object xs (json.boolean b) = refl
same_object xs (json.number n) = refl
same_object xs (json.string s) = refl
same_object xs (json.array ds) = refl
same_object xs (json.object ms) = refl

-- arrays of other lengths
pub other_lengths : (xs ys : List Data) → ((length xs ≡ length ys) → ⊥) → same_items (items_of xs) (items_of ys) ≡ false
other_lengths [] [] differ = absurd (differ refl)
other_lengths [] (y ∷ ys) differ = refl
other_lengths (x ∷ xs) [] differ = refl
other_lengths (x ∷ xs) (y ∷ ys) differ =
    ap (λ b. same_data x y && b) (other_lengths xs ys (λ e. differ (ap suc e))) ∙ and_false (same_data x y) where
      and_false : (b : Bool) → b && false ≡ false
      and_false true = refl
      and_false false = refl

-- null is the same as null alone
pub same_as_null : (d : Data) → same_data d json.null ≡ is_some (as_null d)
same_as_null json.null = refl
same_as_null (json.boolean b) = refl
same_as_null (json.number n) = refl
same_as_null (json.string s) = refl
same_as_null (json.array ds) = refl
same_as_null (json.object ms) = refl
