-- What a walk has added, one step on.
use Rattle.std.proofs.Common.{◌≡◌, ◌+◌, ◌++◌, ◌<◌, ℕ, List, [], ◌∷◌, length, get_or, take, map, flat_map, arith}
use Rattle.std.proofs.lemmas.Grind.{common_steps}
use Rattle.std.proofs.lemmas.List.{take_more, map-append}
use Rattle.std.proofs.lemmas.List.Concat.{flat_map-append}

regrouped : {A : Type 0} (start middle last before after : List A) → before ≡ start ++ middle → after ≡ before ++ last → after ≡ start ++ (middle ++ (last ++ []))
regrouped start middle last before after was is = grind (arith, common_steps, was, is)

pub added_step : {X Y A : Type 0} (f : Y → List A) (g : X → Y) (xs : List X) (i : ℕ) (x : X) (start before after : List A) → i < length xs → get_or xs i x ≡ x
    → before ≡ start ++ flat_map f (map g (take i xs))
    → after ≡ before ++ f (g x)
    → after ≡ start ++ flat_map f (map g (take (i + 1) xs))
added_step f g xs i x start before after within item was is =
    rw (take_more xs i x within, item, map-append g (take i xs) (x ∷ []), flat_map-append f (map g (take i xs)) (g x ∷ []))
    (regrouped start (flat_map f (map g (take i xs))) (f (g x)) before after was is)
