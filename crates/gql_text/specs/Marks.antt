-- What is at the front of a text that doesn't begin with a quote (2.1).
use Rattle.std.specs.Prelude.{ℕ, ◌+◌, List, ◌∷◌, drop, ◌&&◌, not, ◌==◌, if◌then◌else◌, Option, Some, None}
use Rattle.std.specs.List.{prefix_len}
use Rattle.std.specs.Char.{is_ascii_digit}
use Rattle.gql_text.specs.declared.token.Kind.{Kind}
use Rattle.gql_text.specs.declared.token.Kind.TheVariants.{Bang, Dollar, Ampersand, LeftParenthesis, RightParenthesis, Ellipsis, Colon, Equals, At, LeftBracket, RightBracket, LeftBrace, Pipe, RightBrace, Name}
use Rattle.gql_text.specs.declared.token.LexRefusal.TheVariants.{BadCharacter}
use Rattle.gql_text.specs.declared.front.Part.{Part}
use Rattle.gql_text.specs.declared.front.Part.TheVariants.{Dropped, Taken, Refused}
use Rattle.gql_text.specs.Chars.{is_name_start, is_name_byte, is_break, is_blank, is_source_byte, begins}
use Rattle.gql_text.specs.Number.{number_part}

-- the punctuator that is this one byte (2.1.8)
abbrev pub mark_kind : ℕ → Option Kind
mark_kind b =
    if b == 33 then Some Bang
    else if b == 36 then Some Dollar
    else if b == 38 then Some Ampersand
    else if b == 40 then Some LeftParenthesis
    else if b == 41 then Some RightParenthesis
    else if b == 58 then Some Colon
    else if b == 61 then Some Equals
    else if b == 64 then Some At
    else if b == 91 then Some LeftBracket
    else if b == 93 then Some RightBracket
    else if b == 123 then Some LeftBrace
    else if b == 124 then Some Pipe
    else if b == 125 then Some RightBrace
    else None

-- the token for a punctuator of one byte; any other byte here begins no token
abbrev pub mark_part : Option Kind → Part
mark_part (Some kind) = Taken kind 1
mark_part None = Refused BadCharacter 0

-- the punctuator of three dots, from the bytes after its first dot; a dot alone begins no token
-- (2.1.8)
abbrev pub dots_part : List ℕ → Part
dots_part (b ∷ c ∷ bs) = if b == 46 && c == 46 then Taken Ellipsis 3 else Refused BadCharacter 0
dots_part _ = Refused BadCharacter 0

-- the byte order mark U+FEFF, from the bytes after its first (2.1.1)
abbrev pub order_part : List ℕ → Part
order_part (b ∷ c ∷ bs) = if b == 187 && c == 191 then Dropped 3 else Refused BadCharacter 0
order_part _ = Refused BadCharacter 0

-- a comment of n bytes, which ends at the end of its line (2.1.4)
abbrev pub comment_part : ℕ → List ℕ → Part
comment_part n rest =
    if begins (λ b. not (is_break b)) rest then Refused BadCharacter n else Dropped n

-- what is at the front of a text that begins with the byte b, which is not a quote
unfoldable pub plain_part : ℕ → List ℕ → Part
plain_part b bs =
    if is_blank b then Dropped 1
    else if is_name_start b then Taken Name (1 + prefix_len is_name_byte bs)
    else if b == 45 then number_part 1 bs
    else if is_ascii_digit b then number_part 0 (b ∷ bs)
    else if b == 35 then comment_part (1 + prefix_len is_source_byte bs)
    (drop (prefix_len is_source_byte bs) bs)
    else if b == 46 then dots_part bs
    else if b == 239 then order_part bs
    else mark_part (mark_kind b)
