-- The text of a string is read as that token, whatever follows that is no quote.
use Rattle.std.proofs.Common.{◌≡◌, ℕ, ◌+◌, ◌<◌, List, [], ◌∷◌, ◌++◌, length, length-append, append_assoc, refl, sym, ap, subst, ◌∙◌, arith, Bool, true, false, cond}
use Rattle.std.specs.Prelude.{codes, ◌==◌, ◌/◌, ◌%◌, nat_lt, flat_map}
use Rattle.std.specs.Char.{digit_char}
use Rattle.std.proofs.Math.Seq.{drop-append_seam}
use Rattle.std.proofs.lemmas.Bool.Decides.{nat_tests}
use Rattle.gql_text.specs.Chars.{is_break, is_source_byte, one_quote}
use Rattle.gql_text.specs.Pieces.{four_digits, is_high, is_low, digits_piece, escape_piece, string_piece}
use Rattle.gql_text.specs.Lexis.{Run, closes, goes, Stands, string}
use Rattle.gql_text.specs.declared.token.Kind.TheVariants.{StringValue}
use Rattle.gql_text.specs.declared.front.Part.TheVariants.{Taken}
use Rattle.gql_text.specs.declared.front.Piece.TheVariants.{Closes, Goes}
use Rattle.gql_ast.specs.LiteralTexts.{escaped, string_text}
use Rattle.gql_printed.proofs.Strings.{Digits, below, controls}
use Rattle.gql_printed.proofs.Followed.{Ends}

-- ---- the pieces

-- such a text, with more after it, is one piece of a string and begins with no quote
record IsPiece (text : List ℕ) : Type 0 where
  piece : (bs : List ℕ) → string_piece (text ++ bs) ≡ Goes (length text)
  first : ℕ
  rest : List ℕ
  parts : text ≡ first ∷ rest
  no_quote : (first == 34) ≡ false

letter_piece : (a : ℕ) → ((bs : List ℕ) → string_piece (92 ∷ a ∷ bs) ≡ Goes 2)
    → IsPiece (92 ∷ a ∷ [])
letter_piece a h = record { piece = h; first = 92; rest = a ∷ []; parts = refl; no_quote = refl }

control_goes : (b : ℕ) → b < 32 → (bs : List ℕ)
    → string_piece (92 ∷ 117 ∷ 48 ∷ 48 ∷ digit_char (b / 16) ∷ digit_char (b % 16) ∷ bs) ≡ Goes 6
unfolding string_piece escape_piece four_digits
control_goes b less bs =
    let high : is_high b ≡ false = grind (arith, nat_tests, less) in
    let low : is_low b ≡ false = grind (arith, nat_tests, less) in
    ap (λ o. digits_piece o (48 ∷ 48 ∷ digit_char (b / 16) ∷ digit_char (b % 16) ∷ bs))
    (below Digits 32 controls b less) ∙ (rw (high, low) refl)

control_piece : (b : ℕ) → b < 32
    → IsPiece (codes "\\u00" ++ digit_char (b / 16) ∷ digit_char (b % 16) ∷ [])
control_piece b less =
    record {
      piece = control_goes b less;
      first = 92;
      rest =
          117 ∷ 48 ∷ 48 ∷ digit_char (b / 16) ∷ digit_char (b % 16) ∷ [];
      parts = refl;
      no_quote = refl;
    }

plain_goes : (b : ℕ) → nat_lt b 32 ≡ false → (b == 34) ≡ false → (b == 92) ≡ false → (bs : List ℕ)
    → string_piece (b ∷ bs) ≡ Goes 1
unfolding string_piece
plain_goes b high quote slash bs =
    let still : is_break b ≡ false = grind (arith, nat_tests, high) in
    let source : is_source_byte b ≡ true = grind (arith, nat_tests, high) in
    rw (still, quote, slash, source) refl

plain_piece : (b : ℕ) → nat_lt b 32 ≡ false → (b == 34) ≡ false → (b == 92) ≡ false
    → IsPiece (b ∷ [])
plain_piece b high quote slash =
    record {
      piece = plain_goes b high quote slash;
      first = b;
      rest = [];
      parts = refl;
      no_quote =
          quote;
    }

pick : (t : Bool) (x y : List ℕ) → (t ≡ true → IsPiece x) → (t ≡ false → IsPiece y)
    → IsPiece (cond t x y)
pick true x y h k = h refl
pick false x y h k = k refl

piece_of : (b : ℕ) → IsPiece (escaped b)
unfolding escaped string_piece escape_piece
piece_of b =
    pick (b == 34) _ _ (λ _. letter_piece 34 (λ bs. refl))
    (λ quote. pick (b == 92) _ _ (λ _. letter_piece 92 (λ bs. refl))
    (λ slash. pick (b == 8) _ _ (λ _. letter_piece 98 (λ bs. refl))
    (λ _. pick (b == 9) _ _ (λ _. letter_piece 116 (λ bs. refl))
    (λ _. pick (b == 10) _ _ (λ _. letter_piece 110 (λ bs. refl))
    (λ _. pick (b == 12) _ _ (λ _. letter_piece 102 (λ bs. refl))
    (λ _. pick (b == 13) _ _ (λ _. letter_piece 114 (λ bs. refl))
    (λ _. pick (nat_lt b 32) _ _ (λ low. control_piece b (grind (arith, nat_tests, low)))
    (λ high. plain_piece b high quote slash))))))))

-- ---- the run

closing : (rest : List ℕ) → string_piece (34 ∷ rest) ≡ Closes 1
unfolding string_piece
closing rest = refl

run_of : (value rest : List ℕ) (n m : ℕ) → m ≡ n + length (flat_map escaped value) + 1
    → Run string_piece StringValue n (flat_map escaped value ++ 34 ∷ rest) (Taken StringValue m)
run_of [] rest n m w = closes (closing rest) (omega (arith, w))
run_of (b ∷ bs) rest n m w =
    let text : List ℕ = escaped b in
    let others : List ℕ = flat_map escaped bs in
    let p = piece_of b in
    let next = run_of bs rest (n + length text) m (omega (arith, w, length-append text others)) in
    rw (append_assoc text others (34 ∷ rest))
    (goes (p.piece (others ++ 34 ∷ rest))
    (subst (λ xs. Run string_piece StringValue (n + length text) xs (Taken StringValue m))
    (sym (drop-append_seam text (others ++ 34 ∷ rest))) next))

-- ---- the token

-- the quotes of an empty string are not three
empty_one : (rest : List ℕ) → Ends rest → one_quote (34 ∷ 34 ∷ rest) ≡ true
empty_one [] ends = refl
empty_one (c ∷ rest) ends = let e : (c == 34) ≡ false = grind (arith, nat_tests, ends) in rw e refl

other_one : (x : ℕ) (xs : List ℕ) → (x == 34) ≡ false → one_quote (34 ∷ x ∷ xs) ≡ true
other_one x [] e = refl
other_one x (c ∷ xs) e = rw e refl

one_of : (value rest : List ℕ) → Ends rest
    → one_quote (34 ∷ (flat_map escaped value ++ 34 ∷ rest)) ≡ true
one_of [] rest ends = empty_one rest ends
one_of (b ∷ bs) rest ends =
    let p = piece_of b in
    let more : List ℕ = flat_map escaped bs ++ 34 ∷ rest in
    ap (λ xs. one_quote (34 ∷ xs))
    (append_assoc (escaped b) (flat_map escaped bs) (34 ∷ rest) ∙ ap (λ xs. xs ++ more) p.parts)
    ∙ other_one p.first (p.rest ++ more) p.no_quote

text_is : (value rest : List ℕ)
    → string_text value ++ rest ≡ 34 ∷ (flat_map escaped value ++ 34 ∷ rest)
text_is value rest = ap (λ xs. 34 ∷ xs) (append_assoc (flat_map escaped value) (34 ∷ []) rest)

-- a string's text, with more text after it
pub string_followed : (value rest : List ℕ) → Ends rest
    → Stands (string_text value ++ rest) (Taken StringValue (length (string_text value)))
string_followed value rest ends =
    rw (text_is value rest)
    (string (one_of value rest ends)
    (run_of value rest 1 (length (string_text value))
    (omega (arith, length-append (flat_map escaped value) (codes "\"")))))
