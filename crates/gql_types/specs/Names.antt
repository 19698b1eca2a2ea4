-- Lists of names.
use Rattle.std.specs.Prelude.{◌≡◌, ℕ, List, [], ◌∷◌, Bool, false, find, is_some, map, bytes_eq}

-- each of these names occurs once
abbrev pub AreOnce : List (List ℕ) → Type 0
AreOnce [] = Unit
AreOnce (n ∷ ns) = (is_some (find (bytes_eq n) ns) ≡ false) × AreOnce ns

-- for each of some names, whether it is among others
abbrev pub are_among : List (List ℕ) → List (List ℕ) → List Bool
are_among others names = map (λ (n : List ℕ). is_some (find (bytes_eq n) others)) names
