-- Lists in the making.
use Rattle.std.proofs.Common.{◌≡◌, ◌++◌, ◌∷◌, [], ◌<◌, ℕ, List, Option, Some, zero, suc, length, refl, sym, ap, ap₂, ◌∙◌, append_assoc, arith}
use Rattle.std.specs.Prelude.{option_to_list, slice_get}
use Rattle.std.proofs.lemmas.List.Elements.{All-head, All-tail}
use Rattle.gql_types.specs.Batches.{AreFilled, HasValue, filled, value_of}
use Rattle.gql_types.specs.declared.batched.Slot.{Slot}
use Rattle.gql_types.specs.declared.batched.Slot.TheVariants.{Kept, Made}

-- an item stays where it is before others
get_before : {T : Type 0} (xs ys : List T) (i : ℕ) → i < length xs
    → slice_get (xs ++ ys) i ≡ slice_get xs i
get_before [] ys i h = absurd (omega arith)
get_before (x ∷ xs) ys zero h = refl
get_before (x ∷ xs) ys (suc i) h = get_before xs ys i (omega arith)

-- the item after some
get_next : {T : Type 0} (xs : List T) (y : T) → slice_get (xs ++ y ∷ []) (length xs) ≡ Some y
get_next [] y = refl
get_next (x ∷ xs) y = get_next xs y

-- slots after others
filled_append : {T : Type 0} (made : List T) (slots more : List (Slot T))
    → filled made (slots ++ more) ≡ filled made slots ++ filled made more
filled_append made [] more = refl
filled_append made (slot ∷ slots) more =
    ap (λ l. option_to_list (value_of made slot) ++ l) (filled_append made slots more)
    ∙ sym (append_assoc (option_to_list (value_of made slot)) (filled made slots) (filled made more))

-- a slot that has a value keeps it when more are made
value_before : {T : Type 0} (made more : List T) (slot : Slot T) → HasValue made slot
    → value_of (made ++ more) slot ≡ value_of made slot
value_before made more (Kept value) h = refl
value_before made more (Made place) h = get_before made more place h

-- and so do all of them
filled_before : {T : Type 0} (made more : List T) (slots : List (Slot T)) → AreFilled made slots
    → filled (made ++ more) slots ≡ filled made slots
filled_before made more [] h = refl
filled_before made more (slot ∷ slots) h = ap₂ (λ v l. option_to_list v ++ l)
    (value_before made more slot (All-head (HasValue made) slot slots h))
    (filled_before made more slots (All-tail (HasValue made) slot slots h))

-- a value that is kept after others, by a copy of it
pub filled_with_kept : {T : Type 0} (made : List T) (slots slots' : List (Slot T)) (value copy : T)
    (list : List T) → filled made slots ≡ list → copy ≡ value → slots' ≡ slots ++ Kept copy ∷ []
    → filled made slots' ≡ list ++ value ∷ []
filled_with_kept made slots slots' value copy list is same e = ap (filled made) e
    ∙ filled_append made slots (Kept copy ∷ []) ∙ ap₂ (λ l v. l ++ v ∷ []) is same

-- a new value after others
pub filled_with_made : {T : Type 0} (made made' : List T) (slots slots' : List (Slot T)) (place : ℕ)
    (value : T) (list : List T) → AreFilled made slots → filled made slots ≡ list
    → place ≡ length made → made' ≡ made ++ value ∷ [] → slots' ≡ slots ++ Made place ∷ []
    → filled made' slots' ≡ list ++ value ∷ []
filled_with_made made made' slots slots' place value list have is at m e =
    ap₂ filled m e ∙ filled_append (made ++ value ∷ []) slots (Made place ∷ [])
    ∙ ap₂ (λ l v. l ++ (option_to_list v ++ [])) (filled_before made (value ∷ []) slots have ∙ is)
    (ap (slice_get (made ++ value ∷ [])) at ∙ get_next made value)

-- one more slot of a list is filled
pub filled_next : {T : Type 0} (made list list' : List T) (slot : Slot T) (slots rest all : List (Slot T))
    (found : Option T) → list ++ filled made slots ≡ filled made all → slots ≡ slot ∷ rest
    → found ≡ value_of made slot → list' ≡ list ++ option_to_list found
    → list' ++ filled made rest ≡ filled made all
filled_next made list list' slot slots rest all found h e is l =
    ap (λ z. z ++ filled made rest) (l ∙ ap (λ v. list ++ option_to_list v) is)
    ∙ append_assoc list (option_to_list (value_of made slot)) (filled made rest)
    ∙ ap (λ z. list ++ filled made z) (sym e) ∙ h
