-- The place of a token, which is a function of the bytes before it (lines: 2.1.3).
use Rattle.std.specs.Prelude.{ℕ, ◌+◌, List, [], ◌∷◌, length, Bool, false, ◌||◌, ◌&&◌, not, nat_lt, nat_le, ◌==◌, if◌then◌else◌, reverse}
use Rattle.gql_text.specs.declared.place.Place.{Place}

-- a byte that begins a character of UTF-8
abbrev pub begins_char : ℕ → Bool
begins_char b = nat_lt b 128 || nat_le 192 b

-- whether CR is at the front
abbrev pub starts_with_return : List ℕ → Bool
starts_with_return [] = false
starts_with_return (b ∷ bs) = b == 13

-- the line after these bytes, given in reverse: a line ends at CR, and at LF with no CR before it
abbrev pub line_behind : List ℕ → ℕ
line_behind [] = 1
line_behind (b ∷ bs) =
    (if b == 13 || (b == 10 && not (starts_with_return bs)) then 1 else 0) + line_behind bs

-- the column after these bytes, given in reverse: the characters since the start of the line, plus
-- one
abbrev pub column_behind : List ℕ → ℕ
column_behind [] = 1
column_behind (b ∷ bs) =
    if b == 13 || b == 10 then 1 else (if begins_char b then 1 else 0) + column_behind bs

-- the place after these bytes
abbrev pub place_after : List ℕ → Place
place_after before = record {
  line = line_behind (reverse before);
  column = column_behind (reverse before);
  offset = length before;
}
