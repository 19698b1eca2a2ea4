-- Parts of a list, by their places in it.
use Rattle.std.specs.Prelude.{ℕ, List, [], ◌∷◌, Option, Some, None, slice_get}
use Rattle.std.specs.List.{flat_map}

-- an item as a list; empty where there is none
abbrev pub listed : {A : Type 0} → Option A → List A
listed None = []
listed (Some x) = x ∷ []

-- the items at these places; a place past the end has none
abbrev pub picked : {A : Type 0} → List A → List ℕ → List A
picked items places = flat_map (λ i. listed (slice_get items i)) places
