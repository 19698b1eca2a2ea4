-- The text of a string is one token, and its value is the string.
use Rattle.std.proofs.Common.{◌≡◌, ℕ, zero, suc, ◌<◌, List, [], ◌∷◌, ◌++◌, refl, sym, subst, arith, Bool, true, false, cond, Some}
use Rattle.std.specs.Prelude.{codes, ◌==◌, ◌/◌, ◌%◌, nat_lt, flat_map, encode_utf8}
use Rattle.std.specs.Char.{digit_char}
use Rattle.std.proofs.lemmas.Bool.{eqb-true}
use Rattle.std.proofs.lemmas.Bool.Decides.{nat_tests}
use Rattle.gql_text.specs.Pieces.{four_digits}
use Rattle.gql_text.specs.Strings as s
use Rattle.gql_text.specs.Strings.{IsStringCharacter, IsStringCharacters, IsString}
use Rattle.gql_ast.specs.LiteralTexts.{escaped, string_text}

-- what holds below a number, one by one
abbrev pub Below : (ℕ → Type 0) → ℕ → Type 0
Below P zero = Unit {0}
Below P (suc n) = Below P n × P n

below_at : (P : ℕ → Type 0) (n b : ℕ) (t : Bool) → (b == n) ≡ t → b < suc n → P n → (b < n → P b)
    → P b
below_at P n b true e less last earlier = subst P (sym (eqb-true b n e)) last
below_at P n b false e less last earlier = earlier (grind (arith, nat_tests, e, less))

pub below : (P : ℕ → Type 0) (n : ℕ) → Below P n → (b : ℕ) → b < n → P b
below P zero h b less = absurd (omega arith)
below P (suc n) h b less = below_at P n b (b == n) refl less h.1 (λ fewer. below P n h.0 b fewer)

-- the four digits of a control character write its number
abbrev pub Digits : ℕ → Type 0
Digits b = four_digits (48 ∷ 48 ∷ digit_char (b / 16) ∷ digit_char (b % 16) ∷ []) ≡ Some b

eight : Below Digits 8
unfolding four_digits
eight = ((((((((tt, refl), refl), refl), refl), refl), refl), refl), refl)

sixteen : Below Digits 16
unfolding four_digits
sixteen = ((((((((eight, refl), refl), refl), refl), refl), refl), refl), refl)

twenty_four : Below Digits 24
unfolding four_digits
twenty_four = ((((((((sixteen, refl), refl), refl), refl), refl), refl), refl), refl)

pub controls : Below Digits 32
unfolding four_digits
controls = ((((((((twenty_four, refl), refl), refl), refl), refl), refl), refl), refl)

-- a character below U+0080 is its own byte
one_byte : (b : ℕ) → b < 128 → b ∷ [] ≡ encode_utf8 b
unfolding lib.Utf8.encode
one_byte b less = let e : nat_lt b 128 ≡ true = grind (arith, nat_tests, less) in rw e refl

control : (b : ℕ) → b < 32
    → IsStringCharacter (codes "\\u00" ++ digit_char (b / 16) ∷ digit_char (b % 16) ∷ []) (b ∷ [])
control b less =
    s.unicode {digits = 48 ∷ 48 ∷ digit_char (b / 16) ∷ digit_char (b % 16) ∷ []} {n = b} refl
    (one_byte b (omega (arith, less)))
    (record { long = refl; writes = below Digits 32 controls b less }) (grind (arith, nat_tests))
    (grind (arith, nat_tests))

-- a character that stands for itself
plain : (b : ℕ) → nat_lt b 32 ≡ false → (b == 34) ≡ false → (b == 92) ≡ false
    → IsStringCharacter (b ∷ []) (b ∷ [])
plain b high quote slash = s.source refl refl (grind (arith, nat_tests, high)) quote slash

-- one of the escapes of a letter
letter : (a byte b : ℕ) → (b == byte) ≡ true → IsStringCharacter (92 ∷ a ∷ []) (byte ∷ [])
    → IsStringCharacter (92 ∷ a ∷ []) (b ∷ [])
letter a byte b e h =
    subst (λ n. IsStringCharacter (92 ∷ a ∷ []) (n ∷ [])) (sym (eqb-true b byte e)) h

pick : (value : List ℕ) (t : Bool) (x y : List ℕ) → (t ≡ true → IsStringCharacter x value)
    → (t ≡ false → IsStringCharacter y value) → IsStringCharacter (cond t x y) value
pick value true x y h k = h refl
pick value false x y h k = k refl

character : (b : ℕ) → IsStringCharacter (escaped b) (b ∷ [])
unfolding escaped lib.Utf8.encode
character b =
    pick (b ∷ []) (b == 34) _ _ (λ e. letter 34 34 b e (s.escaped refl refl refl))
    (λ quote. pick (b ∷ []) (b == 92) _ _ (λ e. letter 92 92 b e (s.escaped refl refl refl))
    (λ slash. pick (b ∷ []) (b == 8) _ _ (λ e. letter 98 8 b e (s.escaped refl refl refl))
    (λ _. pick (b ∷ []) (b == 9) _ _ (λ e. letter 116 9 b e (s.escaped refl refl refl))
    (λ _. pick (b ∷ []) (b == 10) _ _ (λ e. letter 110 10 b e (s.escaped refl refl refl))
    (λ _. pick (b ∷ []) (b == 12) _ _ (λ e. letter 102 12 b e (s.escaped refl refl refl))
    (λ _. pick (b ∷ []) (b == 13) _ _ (λ e. letter 114 13 b e (s.escaped refl refl refl))
    (λ _. pick (b ∷ []) (nat_lt b 32) _ _ (λ low. control b (grind (arith, nat_tests, low)))
    (λ high. plain b high quote slash))))))))

characters : (value : List ℕ) → IsStringCharacters (flat_map escaped value) value
characters [] = s.none refl refl
characters
    (b ∷ bs) =
    s.more {front = escaped b} {rest = flat_map escaped bs} {v = b ∷ []} {w = bs} refl refl
    (character b) (characters bs)

-- the text of a string, in quotes, is a string of the grammar with its value
pub string_is : (value : List ℕ) → IsString (string_text value) value
string_is value =
    record { inner = flat_map escaped value; parts = refl; characters = characters value }
