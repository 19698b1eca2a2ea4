-- Which numbers, as they are written, are in range (GraphQL specification, 3.5.1 and 3.5.2).
use Rattle.std.specs.Prelude.{◌&&◌, ◌||◌, ◌^◌, ℕ, ℤ, List, Bool, Float, Option, Some, None, is_some, option_and_then, nat_lt, nat_le, length, if◌then◌else◌}
use Rattle.std.specs.Float.{binary64, float_is_finite}
use Rattle.std.specs.Float.Parse.{parse_float}
use Rattle.std.specs.Str.{all_ascii_digits}
use Rattle.std.specs.Str.Parse.{digits_value, signed_digits_value, starts_with_minus, without_leading_sign}

-- whether a number has at most this many bits besides its sign: it is from -2^bits to 2^bits - 1
abbrev pub is_within : ℕ → Bool → ℕ → Bool
is_within bits negative n = if negative then nat_le n (2 ^ bits) else nat_lt n (2 ^ bits)

-- whether a text is a whole number of at most this many bits besides its sign
abbrev pub is_whole : ℕ → List ℕ → Bool
is_whole bits text = nat_lt 0 (length (without_leading_sign text))
    && (all_ascii_digits (without_leading_sign text)
    && is_within bits (starts_with_minus text) (digits_value 10 (without_leading_sign text)))

-- the whole number that a text is, if it has at most 64 bits
abbrev pub whole_number : List ℕ → Option ℤ
whole_number text = if is_whole 63 text then Some (signed_digits_value 10 text) else None

-- a double, if it is finite
abbrev pub if_finite : Float → Option Float
if_finite x = if float_is_finite x then Some x else None

-- the double nearest to the number that a text writes, if that is finite
abbrev pub real_of : List ℕ → Option Float
real_of text = option_and_then if_finite (parse_float binary64 text)

-- whether a text is a whole number of at most 64 bits, or has a finite nearest double
abbrev pub is_number : List ℕ → Bool
is_number text = is_whole 63 text || is_some (real_of text)
