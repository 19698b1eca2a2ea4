-- Decimal numbers in bytes.
use Rattle.std.specs.Prelude.{ℕ, ◌+◌, ◌*◌, ◌-◌, List, [], ◌∷◌, length, Bool, ◌&&◌, nat_le, if◌then◌else◌, Option, Some, None}
use Rattle.std.specs.List.{list_all}
use Rattle.std.specs.Char.{is_ascii_digit}

-- the number of these digits, after digits of the number n
abbrev pub number_from : ℕ → List ℕ → ℕ
number_from n [] = n
number_from n (b ∷ bs) = number_from (10 * n + (b - 48)) bs

-- whether the bytes are 1 to 18 digits
abbrev pub is_number : List ℕ → Bool
is_number bs = nat_le 1 (length bs) && nat_le (length bs) 18 && list_all is_ascii_digit bs

-- the number of 1 to 18 digits, and `None` for other bytes
abbrev pub number_in : List ℕ → Option ℕ
number_in bs = if is_number bs then Some (number_from 0 bs) else None
