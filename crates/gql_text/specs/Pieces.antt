-- The pieces of strings (2.9.4): what is at the front of the rest of a string or a block string.
use Rattle.std.specs.Prelude.{ℕ, ◌+◌, ◌-◌, ◌*◌, List, [], ◌∷◌, drop, Bool, ◌&&◌, ◌||◌, not, nat_lt, nat_le, ◌==◌, if◌then◌else◌, codes, Option, Some, None, unwrap_or}
use Rattle.std.specs.List.{prefix_len, list_any}
use Rattle.std.specs.Char.{is_ascii_hexdigit}
use Rattle.gql_text.specs.declared.token.LexRefusal.TheVariants.{BadCharacter, UnfinishedText, BadEscape, LoneSurrogate}
use Rattle.gql_text.specs.declared.front.Piece.{Piece}
use Rattle.gql_text.specs.declared.front.Piece.TheVariants.{Closes, Goes, Stops}
use Rattle.gql_text.specs.Chars.{is_break, is_source_byte, begins, three_quotes}

-- the value of a hexadecimal digit
abbrev pub hex_value : ℕ → ℕ
hex_value b = if nat_le 97 b then b - 87 else if nat_le 65 b then b - 55 else b - 48

-- the number of the four hexadecimal digits at the front
unfoldable pub four_digits : List ℕ → Option ℕ
four_digits (a ∷ b ∷ c ∷ d ∷ bs) =
    if is_ascii_hexdigit a && is_ascii_hexdigit b && is_ascii_hexdigit c && is_ascii_hexdigit d
    then Some (hex_value a * 4096 + hex_value b * 256 + hex_value c * 16 + hex_value d)
    else None
four_digits _ = None

-- the first half of a surrogate pair
abbrev pub is_high : ℕ → Bool
is_high n = nat_le 0xD800 n && nat_lt n 0xDC00

-- the second half of a surrogate pair
abbrev pub is_low : ℕ → Bool
is_low n = nat_le 0xDC00 n && nat_lt n 0xE000

-- the number of the escape \u at the front, or 0 if there is none
unfoldable pub escaped_number : List ℕ → ℕ
escaped_number (b ∷ c ∷ bs) = if b == 92 && c == 117 then unwrap_or (four_digits bs) 0 else 0
escaped_number _ = 0

-- an escape with too few digits: unfinished if the line or the text ends there, else a bad escape
abbrev pub short_escape : List ℕ → Piece
short_escape rest =
    if begins (λ b. not (is_break b)) rest then Stops BadEscape else Stops UnfinishedText

-- an escape \u of this number, with the bytes after its digits: the two halves of a pair are one
-- piece
abbrev pub number_piece : ℕ → List ℕ → Piece
number_piece n bs =
    if is_high n then (if is_low (escaped_number bs) then Goes 12 else Stops LoneSurrogate)
    else if is_low n then Stops LoneSurrogate
    else Goes 6

-- what follows \u
abbrev pub digits_piece : Option ℕ → List ℕ → Piece
digits_piece (Some n) bs = number_piece n (drop 4 bs)
digits_piece None bs = short_escape (drop (prefix_len is_ascii_hexdigit bs) bs)

-- what follows a backslash
unfoldable pub escape_piece : List ℕ → Piece
escape_piece [] = Stops UnfinishedText
escape_piece (b ∷ bs) =
    if is_break b then Stops UnfinishedText
    else if list_any (λ c. c == b) (codes "\"\\/bfnrt") then Goes 2
    else if b == 117 then digits_piece (four_digits bs) bs
    else Stops BadEscape

-- what is at the front of the rest of a string
unfoldable pub string_piece : List ℕ → Piece
string_piece [] = Stops UnfinishedText
string_piece (b ∷ bs) =
    if is_break b then Stops UnfinishedText
    else if b == 34 then Closes 1
    else if b == 92 then escape_piece bs
    else if is_source_byte b then Goes 1
    else Stops BadCharacter

-- what is at the front of the rest of a block string
unfoldable pub block_piece : List ℕ → Piece
block_piece [] = Stops UnfinishedText
block_piece (b ∷ bs) =
    if three_quotes (b ∷ bs) then Closes 3
    else if b == 92 && three_quotes bs then Goes 4
    else if is_break b || is_source_byte b then Goes 1
    else Stops BadCharacter
