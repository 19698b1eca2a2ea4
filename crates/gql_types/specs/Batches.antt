-- Helper definitions for private contracts: a list in the making, of values that are kept and of
-- new ones.
use Rattle.std.specs.Prelude.{◌≡◌, ◌<◌, ◌++◌, ◌∷◌, [], List, Option, Some, All, length, option_to_list, refl, slice_get}
use Rattle.gql_types.specs.declared.batched.Batch.{Batch}
use Rattle.gql_types.specs.declared.batched.Slot.{Slot}
use Rattle.gql_types.specs.declared.batched.Slot.TheVariants.{Kept, Made}

-- the values of a batch, in their order
abbrev pub values_of : {T : Type 0} → Batch T → List T
values_of batch = batch.others.items ++ batch.last ∷ []

-- the value of a slot, if there is one: a kept one, or the new one at a place
abbrev pub value_of : {T : Type 0} → List T → Slot T → Option T
value_of made (Kept value) = Some value
value_of made (Made place) = slice_get made place

-- the values of slots, in their order
abbrev pub filled : {T : Type 0} → List T → List (Slot T) → List T
filled made [] = []
filled made (slot ∷ slots) = option_to_list (value_of made slot) ++ filled made slots

-- a slot has a value
abbrev pub HasValue : {T : Type 0} → List T → Slot T → Type 0
HasValue made (Kept value) = Unit
HasValue made (Made place) = place < length made

-- each slot has a value
abbrev pub AreFilled : {T : Type 0} → List T → List (Slot T) → Type 0
AreFilled made slots = All (HasValue made) slots

-- two values that are kept, and two new ones
example : {T : Type 0} (a b m n : T)
    → filled (m ∷ n ∷ []) (Kept a ∷ Made 0 ∷ Kept b ∷ Made 1 ∷ []) ≡ a ∷ m ∷ b ∷ n ∷ []
example a b m n = refl

-- kept values alone
example_kept : {T : Type 0} (a b : T) → filled [] (Kept a ∷ Kept b ∷ []) ≡ a ∷ b ∷ []
example_kept a b = refl

-- new values alone
example_made : {T : Type 0} (m n : T) → filled (m ∷ n ∷ []) (Made 0 ∷ Made 1 ∷ []) ≡ m ∷ n ∷ []
example_made m n = refl

-- a slot with no value
example_none : {T : Type 0} (a m : T) → filled (m ∷ []) (Kept a ∷ Made 1 ∷ []) ≡ a ∷ []
example_none a m = refl
