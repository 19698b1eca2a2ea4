-- Numbers (2.9.1 and 2.9.2): what is at the front of a text that begins with a digit or a minus.
use Rattle.std.specs.Prelude.{ℕ, ◌+◌, List, [], ◌∷◌, drop, Bool, ◌||◌, ◌==◌, if◌then◌else◌}
use Rattle.std.specs.List.{prefix_len}
use Rattle.std.specs.Char.{is_ascii_digit}
use Rattle.gql_text.specs.declared.token.Kind.{Kind}
use Rattle.gql_text.specs.declared.token.Kind.TheVariants.{IntValue, FloatValue}
use Rattle.gql_text.specs.declared.token.LexRefusal.TheVariants.{BadNumber}
use Rattle.gql_text.specs.declared.front.Part.{Part}
use Rattle.gql_text.specs.declared.front.Part.TheVariants.{Taken, Refused}
use Rattle.gql_text.specs.Chars.{is_name_byte, begins}

-- a byte that can't follow a number: a digit, a dot, a letter or _
abbrev pub spoils_number : ℕ → Bool
spoils_number b = b == 46 || is_name_byte b

-- e or E
abbrev pub is_exponent_mark : ℕ → Bool
is_exponent_mark b = b == 101 || b == 69

-- the length of the sign of an exponent: 0 or 1
abbrev pub sign_len : List ℕ → ℕ
sign_len bs = if begins (λ b. b == 43 || b == 45) bs then 1 else 0

-- a number of n bytes, if nothing follows that would continue it
abbrev pub number_end : Kind → ℕ → List ℕ → Part
number_end kind n rest = if begins spoils_number rest then Refused BadNumber 0 else Taken kind n

-- the digits of an exponent, with n bytes of the number before them
unfoldable pub exponent_digits : ℕ → List ℕ → Part
exponent_digits n bs =
    if prefix_len is_ascii_digit bs == 0 then Refused BadNumber 0
    else number_end FloatValue (n + prefix_len is_ascii_digit bs)
    (drop (prefix_len is_ascii_digit bs) bs)

-- the exponent that may follow a number, with n bytes of the number before it
unfoldable pub exponent_part : Kind → ℕ → List ℕ → Part
exponent_part kind n [] = number_end kind n []
exponent_part kind n (b ∷ bs) =
    if is_exponent_mark b then exponent_digits (n + 1 + sign_len bs) (drop (sign_len bs) bs)
    else number_end kind n (b ∷ bs)

-- the digits of a fraction, with n bytes of the number before them
unfoldable pub fraction_digits : ℕ → List ℕ → Part
fraction_digits n bs =
    if prefix_len is_ascii_digit bs == 0 then Refused BadNumber 0
    else exponent_part FloatValue (n + prefix_len is_ascii_digit bs)
    (drop (prefix_len is_ascii_digit bs) bs)

-- the fraction or exponent that may follow an integer part of n bytes
unfoldable pub fraction_part : ℕ → List ℕ → Part
fraction_part n [] = exponent_part IntValue n []
fraction_part n (b ∷ bs) =
    if b == 46 then fraction_digits (n + 1) bs else exponent_part IntValue n (b ∷ bs)

-- the digits of the integer part, with n bytes of the number before them: 0, or digits that don't
-- begin with 0
unfoldable pub number_part : ℕ → List ℕ → Part
number_part n [] = Refused BadNumber 0
number_part n (b ∷ bs) =
    if b == 48 then fraction_part (n + 1) bs
    else if is_ascii_digit b
    then fraction_part (n + 1 + prefix_len is_ascii_digit bs)
    (drop (prefix_len is_ascii_digit bs) bs)
    else Refused BadNumber 0
