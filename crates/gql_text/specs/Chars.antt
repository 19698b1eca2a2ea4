-- Classes of bytes (2.1). A text is UTF-8, so that each byte of a character past U+007F is at least
-- 128.
use Rattle.std.specs.Prelude.{ℕ, List, [], ◌∷◌, Bool, false, ◌||◌, ◌&&◌, nat_le, ◌==◌, not}
use Rattle.std.specs.Char.{is_ascii_alphabetic, is_ascii_digit}

-- a letter or _ (NameStart, 2.1.9)
abbrev pub is_name_start : ℕ → Bool
is_name_start b = b == 95 || is_ascii_alphabetic b

-- a letter, a digit or _ (NameContinue, 2.1.9)
abbrev pub is_name_byte : ℕ → Bool
is_name_byte b = is_name_start b || is_ascii_digit b

-- LF or CR (LineTerminator, 2.1.3)
abbrev pub is_break : ℕ → Bool
is_break b = b == 10 || b == 13

-- tab, space, LF, CR or comma (2.1.2, 2.1.3, 2.1.5)
abbrev pub is_blank : ℕ → Bool
is_blank b = b == 9 || b == 32 || is_break b || b == 44

-- a byte of a SourceCharacter that is not a line end (2.1)
abbrev pub is_source_byte : ℕ → Bool
is_source_byte b = b == 9 || nat_le 32 b

-- whether the list begins with a byte of this class
abbrev pub begins : (ℕ → Bool) → List ℕ → Bool
begins test [] = false
begins test (b ∷ bs) = test b

-- whether three quotes are at the front
abbrev pub three_quotes : List ℕ → Bool
three_quotes (a ∷ b ∷ c ∷ bs) = a == 34 && b == 34 && c == 34
three_quotes _ = false

-- whether one quote is at the front, and not three
abbrev pub one_quote : List ℕ → Bool
one_quote (a ∷ b ∷ c ∷ bs) = a == 34 && not (b == 34 && c == 34)
one_quote bs = begins (λ b. b == 34) bs
