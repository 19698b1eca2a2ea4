-- One element more in a loop that adds to a list.
use Rattle.std.specs.Prelude.{◌≡◌, ◌<◌, ℕ, List, ◌++◌, flat_map, length, take, ◌+◌}
use Rattle.std.proofs.Common.{get_or, arith}
use Rattle.std.proofs.lemmas.Grind.{common_steps}
use Rattle.std.proofs.lemmas.List.{take_more}

pub flat_map_step : {X Y : Type 0} (f : X → List Y) (xs : List X) (i : ℕ) (x : X) (base old new : List Y) → i < length xs → get_or xs i x ≡ x
    → old ≡ base ++ flat_map f (take i xs)
    → new ≡ old ++ f x
    → new ≡ base ++ flat_map f (take (i + 1) xs)
flat_map_step f xs i x base old new within item before after =
    rw (take_more xs i x within, item) grind (arith, common_steps, before, after)
