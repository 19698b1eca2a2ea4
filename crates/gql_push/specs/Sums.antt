-- The sum of a file: its SHA-256 in hexadecimal digits.
use Rattle.std.specs.Prelude.{ℕ, ◌+◌, ◌/◌, ◌%◌, List, [], ◌∷◌, nat_lt, if◌then◌else◌}
use Rattle.std.specs.List.{flat_map}
use Rattle.sha2.specs.Sha256.{sha256}

-- the digit of a number below 16: `0` to `9`, and then `a` to `f`
abbrev pub digit_of : ℕ → ℕ
digit_of n = if nat_lt n 10 then 48 + n else 87 + n

-- two digits for each byte
abbrev pub hex_of : List ℕ → List ℕ
hex_of = flat_map (λ b. digit_of (b / 16) ∷ digit_of (b % 16) ∷ [])

-- the sum of these bytes
abbrev pub sum_at : List ℕ → List ℕ
sum_at bytes = hex_of (sha256 bytes)
