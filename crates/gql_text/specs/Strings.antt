-- Strings and block strings, by the specification's productions (2.9.4), each with its value.
use Rattle.std.specs.Prelude.{ℕ, ◌≡◌, ◌+◌, ◌-◌, ◌*◌, List, [], ◌∷◌, ◌++◌, length, true, false, ◌||◌, ◌==◌, Some, codes, encode_utf8}
use Rattle.std.specs.List.{list_any, join_with_byte}
use Rattle.gql_text.specs.Chars.{is_break, is_source_byte, three_quotes}
use Rattle.gql_text.specs.Pieces.{four_digits, is_high, is_low}
use Rattle.gql_text.specs.Values.{letter_value, lines_of, without_common_indent, from_first, up_to_last}

-- EscapedCharacter: one of " \ / b f n r t
abbrev pub IsEscapedCharacter : ℕ → Type 0
IsEscapedCharacter b = list_any (λ c. c == b) (codes "\"\\/bfnrt") ≡ true

-- EscapedUnicode: four hexadecimal digits, with their number
pub record IsEscapedUnicode (text : List ℕ) (number : ℕ) : Type 0 where
  pub long : length text ≡ 4
  pub writes : four_digits text ≡ Some number

-- the character of a surrogate pair, from its halves
abbrev pub pair_value : ℕ → ℕ → ℕ
pair_value high low = 0x1_0000 + (high - 0xD800) * 0x400 + (low - 0xDC00)

-- StringCharacter, with its value: a SourceCharacter but not ", \ or LineTerminator (one of several
-- bytes is read byte by byte); \ EscapedCharacter; \u EscapedUnicode that is not half of a
-- surrogate pair; or both halves of a pair.
pub data IsStringCharacter : List ℕ → List ℕ → Type 0 where
  source : {text value : List ℕ} {b : ℕ} → text ≡ b ∷ [] → value ≡ b ∷ [] → is_source_byte b ≡ true
      → (b == 34) ≡ false → (b == 92) ≡ false
      → IsStringCharacter text value
  escaped : {text value : List ℕ} {b : ℕ} → text ≡ 92 ∷ b ∷ []
      → value ≡ encode_utf8 (letter_value b) → IsEscapedCharacter b
      → IsStringCharacter text value
  unicode : {text value digits : List ℕ} {n : ℕ} → text ≡ 92 ∷ 117 ∷ digits → value ≡ encode_utf8 n
      → IsEscapedUnicode digits n
      → is_high n ≡ false → is_low n ≡ false → IsStringCharacter text value
  pair : {text value first second : List ℕ} {m n : ℕ}
      → text ≡ 92 ∷ 117 ∷ (first ++ 92 ∷ 117 ∷ second) → value ≡ encode_utf8 (pair_value m n)
      → IsEscapedUnicode first m → IsEscapedUnicode second n → is_high m ≡ true → is_low n ≡ true
      → IsStringCharacter text value

-- StringCharacter*, with the values one after another
pub data IsStringCharacters : List ℕ → List ℕ → Type 0 where
  none : {text value : List ℕ} → text ≡ [] → value ≡ [] → IsStringCharacters text value
  more : {text value front rest v w : List ℕ} → text ≡ front ++ rest → value ≡ v ++ w
      → IsStringCharacter front v → IsStringCharacters rest w
      → IsStringCharacters text value

-- StringValue: " StringCharacter* "
pub record IsString (text value : List ℕ) : Type 0 where
  pub inner : List ℕ
  pub parts : text ≡ 34 ∷ (inner ++ 34 ∷ [])
  pub characters : IsStringCharacters inner value

-- BlockStringCharacter* and the closing quotes, with the raw value: \""" means """; any other
-- character is a SourceCharacter at which neither """ nor \""" begins.
pub data IsBlock : List ℕ → List ℕ → Type 0 where
  closing : {text raw : List ℕ} → text ≡ 34 ∷ 34 ∷ 34 ∷ [] → raw ≡ [] → IsBlock text raw
  escaped_quotes : {text raw rest w : List ℕ} → text ≡ 92 ∷ 34 ∷ 34 ∷ 34 ∷ rest
      → raw ≡ 34 ∷ 34 ∷ 34 ∷ w → IsBlock rest w → IsBlock text raw
  character : {text raw rest w : List ℕ} {b : ℕ} → text ≡ b ∷ rest → raw ≡ b ∷ w
      → (is_break b || is_source_byte b) ≡ true
      → three_quotes text ≡ false → (b ≡ 92 → three_quotes rest ≡ false) → IsBlock rest w
      → IsBlock text raw

-- BlockStringValue(): the value of a block string, from its raw value
abbrev pub block_string_value : List ℕ → List ℕ
block_string_value raw =
    join_with_byte 10 (up_to_last (from_first (without_common_indent (lines_of raw))))

-- StringValue: """ BlockStringCharacter* """, with the value that BlockStringValue() computes from
-- the raw value
pub record IsBlockString (text value : List ℕ) : Type 0 where
  pub rest : List ℕ
  pub raw : List ℕ
  pub parts : text ≡ 34 ∷ 34 ∷ 34 ∷ rest
  pub block : IsBlock rest raw
  pub computed : value ≡ block_string_value raw
