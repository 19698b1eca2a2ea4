-- What is said by a map that the code holds, and by the list that it was made of.
use Rattle.std.proofs.Common.{◌≡◌, ◌++◌, ◌+◌, ◌<◌, ℕ, List, [], ◌∷◌, flat_map, map, take, length, get_or, refl, arith}
use Rattle.std.proofs.lemmas.List.{take_more}
use Rattle.std.proofs.lemmas.Grind.{common_steps}

pub flat_map_same : {X Y : Type 0} (f g : X → List Y) (xs : List X) → ((x : X) → f x ≡ g x) → flat_map f xs ≡ flat_map g xs
flat_map_same f g [] same = refl
flat_map_same f g (x ∷ xs) same = λ k. same x k ++ flat_map_same f g xs same k

-- one more of those that the code borrows was checked
pub flat_map_step : {R X Y : Type 0} (f : X → List Y) (m : R → X) (xs : List R) (i : ℕ) (x : R) (base old new : List Y) → i < length xs → get_or xs i x ≡ x
    → old ≡ base ++ flat_map f (map m (take i xs))
    → new ≡ old ++ f (m x)
    → new ≡ base ++ flat_map f (map m (take (i + 1) xs))
flat_map_step f m xs i x base old new within item before after =
    rw (take_more xs i x within, item) grind (arith, common_steps, before, after)

-- one more of those that the code borrows was put into a list
pub map_step : {R S X Y : Type 0} (m : R → Y) (f : X → Y) (v : S → X) (xs : List S) (i : ℕ) (x : S) (old new : List R) (y : R)
    → i < length xs → get_or xs i x ≡ x
    → map m old ≡ map f (map v (take i xs))
    → new ≡ old ++ y ∷ []
    → m y ≡ f (v x)
    → map m new ≡ map f (map v (take (i + 1) xs))
map_step m f v xs i x old new y within item before after same =
    rw (after, take_more xs i x within, item) grind (arith, common_steps, before, same)
