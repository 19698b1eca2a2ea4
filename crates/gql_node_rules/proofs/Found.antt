-- What a look-up by name finds.
use Rattle.std.proofs.Common.{◌≡◌, List, [], ◌∷◌, Bool, Bor, Option, map, find, is_some, option_map, refl, arith}
use Rattle.std.specs.Option.{option_copied}
use Rattle.std.specs.List.{list_any}
use Rattle.std.proofs.lemmas.Grind.{common_steps}

module _ {X Y : Type 0} where
  pub found_in : (of : X → Y) (test : Y → Bool) (xs : List X) → option_map of (find (λ x. test (of x)) xs) ≡ find test (map of xs)
  found_in of test [] = refl
  found_in of test (x ∷ xs) = grind (arith, common_steps, found_in of test xs)

  pub is_found_in : (of : X → Y) (test : Y → Bool) (xs : List X) → is_some (find (λ x. test (of x)) xs) ≡ list_any test (map of xs)
  is_found_in of test [] = refl
  is_found_in of test (x ∷ xs) = grind (arith, common_steps, is_found_in of test xs)

  -- what was found is borrowed
  pub map_copied : (of : X → Y) (o : Option (Bor X)) → option_map (λ (x : Bor X). of x.now) o ≡ option_map of (option_copied o)
  map_copied of (Option.Some x) = refl
  map_copied of Option.None = refl

pub some_copied : {X : Type 0} (o : Option (Bor X)) → is_some o ≡ is_some (option_copied o)
some_copied (Option.Some x) = refl
some_copied Option.None = refl
