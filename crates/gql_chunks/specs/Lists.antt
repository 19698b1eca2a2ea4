-- Lists in order, and lists in chunks.
use Rattle.std.specs.Prelude.{◌≡◌, ◌≢◌, List, [], flat_map, All}
use Rattle.std.specs.List.{AllPairs}
use Rattle.std.specs.declared.cmp.Ordering.{Ordering}
use Rattle.std.specs.declared.cmp.Ordering.TheVariants.{Less}

-- the place of each item is before the places of all that come later
abbrev pub AreInOrder : {T : Type 0} → (T → T → Ordering) → List T → Type 0
AreInOrder {T} order items = AllPairs (λ (x y : T). order x y ≡ Less) items

-- the items of chunks, chunk after chunk
abbrev pub joined : {T : Type 0} → List (List T) → List T
joined {T} chunks = flat_map (λ (c : List T). c) chunks

-- no chunk is empty
abbrev pub AreFull : {T : Type 0} → List (List T) → Type 0
AreFull {T} chunks = All (λ (c : List T). c ≢ []) chunks

-- chunks of a list in order, none of them empty
pub record IsChunked {T : Type 0} (order : T → T → Ordering) (chunks : List (List T)) : Type 0 where
  pub full : AreFull chunks
  pub ordered : AreInOrder order (joined chunks)
