-- What a number in a text is as a double (GraphQL specification, 3.5.2), and the text of a double: this
-- registry's own rule. A double is a number of IEEE 754's binary64: `fin s m e` is m * 2 ^ e, negative
-- if s is true.
use Rattle.std.specs.Prelude.{ℕ, zero, suc, ◌+◌, ◌-◌, ◌*◌, ◌/◌, ◌%◌, ◌^◌, List, [], ◌∷◌, ◌++◌, length, take, drop, replicate, codes, Bool, true, false, ◌&&◌, nat_lt, nat_le, nat_eq, Float, ℤ, decimal, Option, Some, None, option_and_then, if◌then◌else◌}
use Rattle.std.specs.Float.{binary64, float_is_finite}
use Rattle.std.specs.Float.Ieee.{nan, inf, fin, up, down, eq}
use Rattle.std.specs.Fmt.{sign_text}
use Rattle.std.specs.Option.{option_map_or}
use Rattle.fast_float.specs.Parse.{parse_float}

-- ---- reading

-- a double, if it is finite
abbrev pub if_finite : Float → Option Float
if_finite x = if float_is_finite x then Some x else None

-- the double nearest to the number that a text writes, if that is finite
abbrev pub double_of : List ℕ → Option Float
double_of text = option_and_then if_finite (parse_float binary64 text)

-- whether a text is read as this double
abbrev pub reads_as : Float → List ℕ → Bool
reads_as x text = option_map_or (λ y. eq y x) (parse_float binary64 text) false

-- ---- rounding

-- q or the next number, by whether r is less than b, the same or more; for the same, the even one
abbrev pub rounded_by : ℕ → ℕ → ℕ → ℕ
rounded_by q r b = if nat_lt r b then q else if nat_eq r b then q + q % 2 else q + 1

-- a / b, to the nearest whole number; of two that are equally near, the even one
abbrev pub nearest_whole : ℕ → ℕ → ℕ
nearest_whole a b = rounded_by (a / b) (2 * (a % b)) b

-- how many digits N has, if it has p or more, but not more than p + k; b says whether it has at most p
abbrev pub size_from : ℕ → Bool → ℕ → ℕ → ℕ
size_from zero b p N = p
size_from (suc k) true p N = p
size_from (suc k) false p N = size_from k (nat_lt N (10 ^ suc p)) (suc p) N

-- how many digits a number has; 0 has none
abbrev pub size : ℕ → ℕ
size N = size_from N (nat_lt N 1) 0 N

-- the first n digits of a number that has more than n, rounded: this is 10 ^ n if they are all 9 and
-- are rounded up
abbrev pub leading : ℕ → ℕ → ℕ
leading n N = nearest_whole N (10 ^ (size N - n))

-- ---- layout: the first digit of a number is worth 10 ^ (p - 1074)

-- without an exponent
abbrev pub plain : List ℕ → ℕ → List ℕ
plain ds p = if nat_lt p 1074 then codes "0." ++ (replicate (1073 - p) 48 ++ ds)
    else if nat_lt (p - 1073) (length ds) then take (p - 1073) ds ++ (codes "." ++ drop (p - 1073) ds)
    else ds ++ (replicate (p - 1073 - length ds) 48 ++ codes ".0")

-- one digit, and the others after a point, if there are any
abbrev pub with_point : List ℕ → List ℕ
with_point [] = []
with_point (d ∷ []) = d ∷ []
with_point (d ∷ ds) = d ∷ (codes "." ++ ds)

-- with an exponent
abbrev pub scientific : List ℕ → ℕ → List ℕ
scientific ds p = with_point ds
    ++ (if nat_lt p 1074 then codes "e-" ++ decimal (1074 - p) else codes "e+" ++ decimal (p - 1074))

-- from 0.00001 up to below 10 ^ 16 without an exponent
abbrev pub laid_out : List ℕ → ℕ → List ℕ
laid_out ds p = if nat_le 1069 p && nat_lt p 1090 then plain ds p else scientific ds p

-- ---- writing

-- the number r, which has n digits, or 10 ^ n, as the first digits of a number of p + 1
abbrev pub placed : ℕ → ℕ → ℕ → List ℕ
placed r n p = if nat_eq r (10 ^ n) then laid_out (codes "1") (p + 1) else laid_out (decimal r) p

-- the text of N / 10 ^ 1074 with n digits, negative if s is true
abbrev pub text_with : Bool → ℕ → ℕ → List ℕ
text_with s N n = sign_text s ++ placed (leading n N) n (size N - 1)

-- The first of the texts with n to n + k digits that is read as x, and the last of them if none is; b
-- says whether the one with n digits is.
abbrev pub first_read : ℕ → Bool → Float → Bool → ℕ → ℕ → List ℕ
first_read zero b x s N n = text_with s N n
first_read (suc k) true x s N n = text_with s N n
first_read (suc k) false x s N n =
    first_read k (reads_as x (text_with s N (suc n))) x s N (suc n)

-- the text with the fewest digits, up to 17, that is read as x
abbrev pub fewest : Float → Bool → ℕ → List ℕ
fewest x s N = first_read 16 (reads_as x (text_with s N 1)) x s N 1

-- m * 2 ^ e * 10 ^ 1074: of a double that is not 0 this is a whole number, of 751 digits or more
abbrev pub exact : ℕ → ℤ → ℕ
exact m e = m * up e * 10 ^ 1074 / down e

-- the text of a finite double
abbrev pub double_text : Float → List ℕ
double_text nan = []
double_text (inf s) = []
double_text (fin s zero e) = sign_text s ++ codes "0.0"
double_text (fin s (suc m) e) = fewest (fin s (suc m) e) s (exact (suc m) e)
