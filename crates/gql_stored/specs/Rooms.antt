-- What `StoredData::prepare` makes: effects, and memory for the lists that they go to. Callers need
-- `effect_of`, `effects_of`, and `IsPreparedFor` as the condition of `StoredData::commit`. The others
-- are helper definitions for these and for private contracts.
use Rattle.std.specs.Prelude.{◌≡◌, ◌+◌, ◌≤◌, ◌⊎◌, ℕ, List, [], ◌∷◌, vec_capacity, string_bytes, IfSome, map, count_by, bytes_eq}
use Rattle.std.specs.List.{AllByRecursion}
use Rattle.serde_json.specs.Data.{Data}
use Rattle.serde_json.specs.Events.{items_len}
use Rattle.serde_json.specs.View.{view}
use Rattle.serde_json.specs.declared.value.Value.{Value}
use Rattle.gql_stored.specs.Changes.{IfList, HasRoom}
use Rattle.gql_stored.specs.Effects as spec
use Rattle.gql_stored.specs.Effects.{list_named}
use Rattle.gql_stored.specs.declared.effect.Effect.{Effect}
use Rattle.gql_stored.specs.declared.additions.Additions.{Additions}
use Rattle.gql_stored.specs.declared.additions.Room.{Room}

-- an effect, as specifications see it
abbrev pub effect_of : Effect → spec.Effect
effect_of e = record { to = string_bytes e.to; value = view e.value }

-- the effects of these additions, in their order
abbrev pub effects_of : Additions → List spec.Effect
effects_of a = map effect_of a.effects.items

-- ---- helper definitions

-- a room is empty
abbrev pub IsEmptyRoom : Room → Type 0
IsEmptyRoom r = r.buffer.items ≡ []

-- if the data have a list of this name, the buffer of this room takes its items and n more
abbrev pub Holds : Data → List ℕ → ℕ → Room → Type 0
Holds d to n r = IfSome (list_named to d) (λ ds. items_len ds + n ≤ vec_capacity r.buffer)

-- one of these rooms is for the list of this name, with n more items
abbrev pub HasRoomAmong : Data → List ℕ → ℕ → List Room → Type 0
HasRoomAmong d to n [] = ⊥
HasRoomAmong d to n (r ∷ rs) = ((string_bytes r.to ≡ to) × Holds d to n r) ⊎ HasRoomAmong d to n rs

-- the list of this name takes n more items, as it is or in one of these rooms
abbrev pub IsCovered : Value → List Room → List ℕ → ℕ → Type 0
IsCovered v rs to n = IfList to (HasRoom n) v ⊎ HasRoomAmong (view v) to n rs

-- how many of these effects go to the list of this name
abbrev pub count_to : List ℕ → List Effect → ℕ
count_to to es = count_by (λ (e : Effect). bytes_eq to (string_bytes e.to)) es

-- ---- what `commit` requires

-- to add these effects to the data takes no memory
abbrev pub IsPreparedFor : Value → Additions → Type 0
IsPreparedFor v a = AllByRecursion IsEmptyRoom a.rooms.items
    × ((to : List ℕ) → IsCovered v a.rooms.items to (count_to to a.effects.items))
