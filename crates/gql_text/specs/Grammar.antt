-- Punctuators, names and numbers, by the specification's productions (2.1.8, 2.1.9, 2.9.1, 2.9.2).
use Rattle.std.specs.Prelude.{ℕ, ◌≡◌, ◌≢◌, ◌<◌, ◌⊎◌, List, [], ◌∷◌, ◌++◌, length, IsTrue, Option, Some, None, codes}
use Rattle.gql_text.specs.declared.token.Kind.{Kind}
use Rattle.gql_text.specs.declared.token.Kind.TheVariants.{Bang, Dollar, Ampersand, LeftParenthesis, RightParenthesis, Ellipsis, Colon, Equals, At, LeftBracket, RightBracket, LeftBrace, Pipe, RightBrace}
use Rattle.std.specs.List.{list_all}
use Rattle.std.specs.Char.{is_ascii_digit}
use Rattle.gql_text.specs.Chars.{is_name_start, is_name_byte}
use Rattle.gql_text.specs.Number.{is_exponent_mark}

-- Name: a letter or _, and then letters, digits and _
pub record IsName (text : List ℕ) : Type 0 where
  pub first : ℕ
  pub rest : List ℕ
  pub parts : text ≡ first ∷ rest
  pub starts : IsTrue (is_name_start first)
  pub continues : IsTrue (list_all is_name_byte rest)

-- one digit or more
pub record IsDigits (text : List ℕ) : Type 0 where
  pub some : 0 < length text
  pub digits : IsTrue (list_all is_ascii_digit text)

-- 0, or digits that don't begin with 0
pub data IsUnsigned : List ℕ → Type 0 where
  zero_alone : {text : List ℕ} → text ≡ 48 ∷ [] → IsUnsigned text
  not_zero : {text rest : List ℕ} {first : ℕ} → text ≡ first ∷ rest → first ≢ 48
      → IsTrue (list_all is_ascii_digit (first ∷ rest)) → IsUnsigned text

-- IntegerPart: an optional minus, and then 0 or digits that don't begin with 0
pub record IsInteger (text : List ℕ) : Type 0 where
  pub sign : List ℕ
  pub digits : List ℕ
  pub parts : text ≡ sign ++ digits
  pub signed : (sign ≡ []) ⊎ (sign ≡ 45 ∷ [])
  pub unsigned : IsUnsigned digits

-- FractionalPart: a dot, and then digits
pub record IsFraction (text : List ℕ) : Type 0 where
  pub digits : List ℕ
  pub parts : text ≡ 46 ∷ digits
  pub are_digits : IsDigits digits

-- ExponentPart: e or E, an optional sign, and then digits
pub record IsExponent (text : List ℕ) : Type 0 where
  pub mark : ℕ
  pub sign : List ℕ
  pub digits : List ℕ
  pub parts : text ≡ mark ∷ (sign ++ digits)
  pub marked : IsTrue (is_exponent_mark mark)
  pub signed : (sign ≡ []) ⊎ ((sign ≡ 43 ∷ []) ⊎ (sign ≡ 45 ∷ []))
  pub are_digits : IsDigits digits

-- what follows the integer part of a FloatValue: a fraction, an exponent, or both
pub data IsFloatTail : List ℕ → Type 0 where
  fraction : {text : List ℕ} → IsFraction text → IsFloatTail text
  exponent : {text : List ℕ} → IsExponent text → IsFloatTail text
  both : {text front back : List ℕ} → text ≡ front ++ back → IsFraction front → IsExponent back
      → IsFloatTail text

-- FloatValue: an IntegerPart, and then a fraction, an exponent, or both
pub record IsFloat (text : List ℕ) : Type 0 where
  pub integer : List ℕ
  pub tail : List ℕ
  pub parts : text ≡ integer ++ tail
  pub is_integer : IsInteger integer
  pub is_tail : IsFloatTail tail

-- the bytes of a Punctuator; none for other kinds of tokens (2.1.8)
abbrev pub mark_text : Kind → Option (List ℕ)
mark_text Bang = Some (codes "!")
mark_text Dollar = Some (codes "$")
mark_text Ampersand = Some (codes "&")
mark_text LeftParenthesis = Some (codes "(")
mark_text RightParenthesis = Some (codes ")")
mark_text Ellipsis = Some (codes "...")
mark_text Colon = Some (codes ":")
mark_text Equals = Some (codes "=")
mark_text At = Some (codes "@")
mark_text LeftBracket = Some (codes "[")
mark_text RightBracket = Some (codes "]")
mark_text LeftBrace = Some (codes "{")
mark_text Pipe = Some (codes "|")
mark_text RightBrace = Some (codes "}")
mark_text _ = None
