-- Items by their places.
use Rattle.std.proofs.Common.{◌≡◌, ℕ, ◌+◌, ◌<◌, ◌≤◌, List, [], ◌∷◌, ◌++◌, length, take, get_or, sym, ap, ◌∙◌, Option, Some, None, Bor}
use Rattle.std.specs.Prelude.{slice_get, MatchOption}
use Rattle.std.specs.List.{HoldsAt}
use Rattle.std.specs.Option.{option_copied}
use Rattle.std.proofs.lemmas.Grind.{flat_map-append}
use Rattle.std.proofs.lemmas.List.{take_more, append-nil}
use Rattle.std.proofs.lemmas.Option.{slice_get_past, slice_get-get_or}
use Rattle.gql_render.specs.Picking.{listed, picked}

-- what `get` finds
pub found_is : {A : Type 0} (r : Option (Bor A)) (items : List A) (k : ℕ) → MatchOption r (length items ≤ k) (λ x. (k < length items) × HoldsAt (λ y. x.now ≡ y) items k) → option_copied r ≡ slice_get items k
found_is None items k h = sym (slice_get_past items k h)
found_is (Some x) items k h = sym (slice_get-get_or items k x.now h.0 ∙ ap Some (sym (h.1 x.now)))

-- one place more
pub picked_more : {A : Type 0} (items : List A) (places : List ℕ) (i : ℕ) → i < length places → picked items (take (i + 1) places) ≡ picked items (take i places) ++ listed (slice_get items (get_or places i 0))
picked_more items places i lt =
    ap (picked items) (take_more places i 0 lt) ∙ flat_map-append (λ k. listed (slice_get items k)) (take i places) (get_or places i 0 ∷ [])
    ∙ ap (λ xs. picked items (take i places) ++ xs) (append-nil (listed (slice_get items (get_or places i 0))))
