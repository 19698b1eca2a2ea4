-- The items at one place more.
use Rattle.std.proofs.Common.{◌≡◌, ◌<◌, ◌≤◌, ◌+◌, ◌∙◌, ℕ, List, [], ◌∷◌, ◌++◌, append-nil, ap, get_or, length, map, sym, take}
use Rattle.std.specs.Prelude.{slice_get}
use Rattle.std.specs.Option.{option_to_list}
use Rattle.std.proofs.lemmas.Grind.{flat_map-append}
use Rattle.std.proofs.lemmas.List.{map-append, take_more}
use Rattle.std.proofs.lemmas.Option.{slice_get_past}
use Rattle.gql_found.specs.EditChecks.{at_places}

places_next : {A : Type 0} (xs : List A) (places : List ℕ) (i other : ℕ) → i < length places
    → at_places xs (take (i + 1) places) ≡ at_places xs (take i places) ++ option_to_list (slice_get xs (get_or places i other))
places_next xs places i other within =
    let item = λ (k : ℕ). option_to_list (slice_get xs k) in
    let p = get_or places i other in
    ap (at_places xs) (take_more places i other within) ∙ flat_map-append item (take i places) (p ∷ [])
    ∙ ap (λ ys. at_places xs (take i places) ++ ys) (append-nil (item p))

-- the items at these places
pub places_more : {A : Type 0} (xs : List A) (places : List ℕ) (i other : ℕ) (old new : List A) → i < length places
    → old ≡ at_places xs (take i places) → new ≡ old ++ option_to_list (slice_get xs (get_or places i other)) → new ≡ at_places xs (take (i + 1) places)
places_more xs places i other old new within before after =
    after ∙ ap (λ ys. ys ++ option_to_list (slice_get xs (get_or places i other))) before ∙ sym (places_next xs places i other within)

-- what is made of the items at these places
pub made_more : {A B : Type 0} (f : A → B) (xs : List A) (places : List ℕ) (i other : ℕ) (old new : List B) → i < length places
    → old ≡ map f (at_places xs (take i places)) → new ≡ old ++ map f (option_to_list (slice_get xs (get_or places i other))) → new ≡ map f (at_places xs (take (i + 1) places))
made_more f xs places i other old new within before after =
    let p = get_or places i other in
    after ∙ ap (λ ys. ys ++ map f (option_to_list (slice_get xs p))) before
    ∙ sym (map-append f (at_places xs (take i places)) (option_to_list (slice_get xs p)))
    ∙ ap (map f) (sym (places_next xs places i other within))

-- where there is no item, none is added
pub none_at : {A : Type 0} (xs : List A) (i : ℕ) (old : List A) → length xs ≤ i → old ≡ old ++ option_to_list (slice_get xs i)
none_at xs i old past = sym (ap (λ o. old ++ option_to_list o) (slice_get_past xs i past) ∙ append-nil old)

pub none_made : {A B : Type 0} (f : A → B) (xs : List A) (i : ℕ) (old : List B) → length xs ≤ i → old ≡ old ++ map f (option_to_list (slice_get xs i))
none_made f xs i old past = sym (ap (λ o. old ++ map f (option_to_list o)) (slice_get_past xs i past) ∙ append-nil old)
