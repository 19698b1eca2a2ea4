-- What look-up by name finds among those that hold what is looked up.
use Rattle.std.proofs.Common.{◌≡◌, ℕ, List, [], ◌∷◌, Bool, Bor, Option, map, find, option_map, refl, arith}
use Rattle.std.proofs.lemmas.Option.{slice_get-map}
use Rattle.std.specs.List.{slice_get}
use Rattle.std.specs.Option.{option_copied}
use Rattle.std.proofs.lemmas.Grind.{common_steps}

module _ {X Y : Type 0} where
  pub found_in : (of : X → Y) (test : Y → Bool) (xs : List X) → option_map of (find (λ x. test (of x)) xs) ≡ find test (map of xs)
  found_in of test [] = refl
  found_in of test (x ∷ xs) = grind (arith, common_steps, found_in of test xs)

  -- what was found is borrowed
  pub map_copied : (of : X → Y) (o : Option (Bor X)) → option_map (λ (x : Bor X). of x.now) o ≡ option_map of (option_copied o)
  map_copied of (Option.Some x) = refl
  map_copied of Option.None = refl

  -- what is at an index, where each is mapped
  pub get_map : (of : X → Y) (xs : List X) (i : ℕ) → slice_get (map of xs) i ≡ option_map of (slice_get xs i)
  get_map of xs i = slice_get-map of xs i
