-- The value of a string or a block string, as a function of the token's text (2.9.4).
use Rattle.std.specs.Prelude.{ℕ, zero, suc, ◌+◌, ◌-◌, ◌*◌, List, [], ◌∷◌, ◌++◌, length, take, drop, map, reverse, min, Bool, ◌&&◌, ◌||◌, nat_le, ◌==◌, if◌then◌else◌, Option, Some, None, unwrap_or, nat_eq, codes, encode_utf8}
use Rattle.std.specs.List.{prefix_len, starts_with, ends_with, join_with_byte}
use Rattle.gql_text.specs.Chars.{is_break, begins, three_quotes}
use Rattle.gql_text.specs.Pieces.{four_digits, escaped_number, is_high, escape_piece}
use Rattle.gql_text.specs.declared.front.Piece.{Piece}
use Rattle.gql_text.specs.declared.front.Piece.TheVariants.{Goes}

-- the character of an escape \b, \f, \n, \r or \t, by its letter; the others mean themselves
abbrev pub letter_value : ℕ → ℕ
letter_value b =
    if b == 98 then 8
    else if b == 102 then 12
    else if b == 110 then 10
    else if b == 114 then 13
    else if b == 116 then 9
    else b

-- the character of an escape \u of this number, with the bytes after its digits: two halves are one
-- character
abbrev pub number_value : ℕ → List ℕ → ℕ
number_value n bs =
    if is_high n then 0x1_0000 + (n - 0xD800) * 0x400 + (escaped_number bs - 0xDC00) else n

-- the character of an escape, from the bytes after its backslash
unfoldable pub escape_value : List ℕ → ℕ
escape_value [] = 0
escape_value (b ∷ bs) =
    if b == 117 then number_value (unwrap_or (four_digits bs) 0) (drop 4 bs) else letter_value b

-- how many bytes an escape has after its backslash
abbrev pub escape_len : Piece → ℕ
escape_len (Goes n) = n - 1
escape_len _ = 0

-- the bytes of the character that an escape means
abbrev pub escape_text : Piece → List ℕ → List ℕ
escape_text (Goes n) bs = encode_utf8 (escape_value bs)
escape_text _ bs = []

-- the value of the rest of a string, without the next n bytes: each escape is its character, other
-- bytes are themselves
abbrev pub string_value_behind : ℕ → List ℕ → List ℕ
string_value_behind n [] = []
string_value_behind (suc n) (b ∷ bs) = string_value_behind n bs
string_value_behind zero (b ∷ bs) =
    if b == 92 then escape_text (escape_piece bs) bs
    ++ string_value_behind (escape_len (escape_piece bs)) bs
    else b ∷ string_value_behind zero bs

-- the value of a string, from what is between its quotes
unfoldable pub string_value : List ℕ → List ℕ
string_value bs = string_value_behind 0 bs

-- the raw value of a block string: a backslash before three quotes is left out
unfoldable pub raw_value : List ℕ → List ℕ
raw_value [] = []
raw_value (b ∷ bs) = if b == 92 && three_quotes bs then raw_value bs else b ∷ raw_value bs

-- the lines, with one more byte at the front of the first
abbrev pub longer_line : ℕ → List (List ℕ) → List (List ℕ)
longer_line b [] = (b ∷ []) ∷ []
longer_line b (line ∷ lines) = (b ∷ line) ∷ lines

-- the lines of a text: a line ends at LF, at CRLF, and at CR
unfoldable pub lines_of : List ℕ → List (List ℕ)
lines_of [] = [] ∷ []
lines_of (b ∷ bs) =
    if b == 13 && begins (λ c. c == 10) bs then lines_of bs
    else if is_break b then [] ∷ lines_of bs
    else longer_line b (lines_of bs)

-- tab or space (WhiteSpace, 2.1.2)
abbrev pub is_white : ℕ → Bool
is_white b = b == 9 || b == 32

-- how many tabs and spaces a line begins with
abbrev pub indent_of : List ℕ → ℕ
indent_of line = prefix_len is_white line

-- whether a line has nothing but tabs and spaces
abbrev pub is_blank_line : List ℕ → Bool
is_blank_line line = indent_of line == length line

-- the smaller of two counts, each of which may be missing
abbrev pub least : Option ℕ → Option ℕ → Option ℕ
least None count = count
least count None = count
least (Some m) (Some n) = Some (min m n)

-- the indent of a line that isn't blank
abbrev pub indent_of_text : List ℕ → Option ℕ
indent_of_text line = if is_blank_line line then None else Some (indent_of line)

-- the least indent of the lines that aren't blank
unfoldable pub common_indent : List (List ℕ) → Option ℕ
common_indent [] = None
common_indent (line ∷ lines) = least (indent_of_text line) (common_indent lines)

-- a line without its first tabs and spaces, at most n
abbrev pub without_indent : ℕ → List ℕ → List ℕ
without_indent n line = drop (min n (indent_of line)) line

-- the first line as it is, and the others without their common indent
unfoldable pub without_common_indent : List (List ℕ) → List (List ℕ)
without_common_indent [] = []
without_common_indent (line ∷ lines) =
    line ∷ map (without_indent (unwrap_or (common_indent lines) 0)) lines

-- the lines from the first that isn't blank
abbrev pub from_first : List (List ℕ) → List (List ℕ)
from_first lines = drop (prefix_len is_blank_line lines) lines

-- the lines up to the last that isn't blank
abbrev pub up_to_last : List (List ℕ) → List (List ℕ)
up_to_last lines = reverse (from_first (reverse lines))

-- the value of a block string, from what is between its quotes
unfoldable pub block_value : List ℕ → List ℕ
block_value bs =
    join_with_byte 10 (up_to_last (from_first (without_common_indent (lines_of (raw_value bs)))))

-- whether the text begins and ends with these quotes
abbrev pub is_within : List ℕ → List ℕ → Bool
is_within quotes text = nat_le (2 * length quotes) (length text) && starts_with nat_eq text quotes
    && ends_with nat_eq text quotes

-- what is between quotes of n bytes
abbrev pub between : ℕ → List ℕ → List ℕ
between n text = take (length text - 2 * n) (drop n text)

-- the value of a token's text: of a block string, of a string, or of any other token, which is its
-- own value
unfoldable pub text_value : List ℕ → List ℕ
text_value text =
    if is_within (codes "\"\"\"") text then block_value (between 3 text)
    else if is_within (codes "\"") text then string_value (between 1 text)
    else text
