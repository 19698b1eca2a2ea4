-- Helper definitions for private contracts: whole numbers as lists of digits, the lowest first.
use Rattle.std.specs.Prelude.{◌≡◌, ℕ, ◌+◌, ◌*◌, ◌^◌, ◌<◌, ◌≤◌, List, [], ◌∷◌, length, Bool, Float, if◌then◌else◌, nat_lt, nat_eq}
use Rattle.std.specs.Float.Ieee.{nan, inf, fin, up, down}
use Rattle.std.specs.Int.Digits.{AllBelowBase}
use Rattle.gql_numbers.specs.declared.parts.Parts.{Parts}

-- the number that digits write
abbrev pub value : List ℕ → ℕ
value [] = 0
value (d ∷ ds) = d + 10 * value ds

-- the digits of N: the highest of them is not 0
pub record AreDigitsOf (N : ℕ) (ds : List ℕ) : Type 0 where
  pub below : AllBelowBase 10 ds
  pub number : value ds ≡ N
  pub highest : 10 ^ length ds ≤ 10 * N

-- x is u / 2 ^ 1074 in size, and negative if s is true
abbrev pub IsScaled : Float → Bool → ℕ → Type 0
IsScaled nan s u = ⊥
IsScaled (inf t) s u = ⊥
IsScaled (fin t m e) s u = (t ≡ s) × (m * up e * 2 ^ 1074 ≡ u * down e)

-- the parts of a double
pub record ArePartsOf (x : Float) (p : Parts) : Type 0 where
  pub scaled : IsScaled x p.negative (p.significand * 2 ^ p.shift)
  pub significand : p.significand < 2 ^ 53
  pub shift : p.shift ≤ 2046
