-- The tokens of a text, and its first fault: relations by cases (2.1, appendix B.1).
use Rattle.std.specs.Prelude.{ℕ, ◌≡◌, ◌≤◌, ◌<◌, ◌+◌, List, [], ◌∷◌, ◌++◌, length, take, drop, true, false}
use Rattle.gql_text.specs.Chars.{three_quotes, one_quote}
use Rattle.gql_text.specs.Lexeme.{Lexeme}
use Rattle.gql_text.specs.Marks.{plain_part}
use Rattle.gql_text.specs.Pieces.{string_piece, block_piece}
use Rattle.gql_text.specs.Place.{place_after}
use Rattle.gql_text.specs.declared.place.Place.{Place}
use Rattle.gql_text.specs.declared.token.Kind.{Kind}
use Rattle.gql_text.specs.declared.token.Kind.TheVariants.{StringValue, BlockString}
use Rattle.gql_text.specs.declared.token.LexRefusal.{LexRefusal}
use Rattle.gql_text.specs.declared.token.LexRefusal.TheVariants.{UnfinishedText, TooLong}
use Rattle.gql_text.specs.declared.token.LexFault.{LexFault}
use Rattle.gql_text.specs.declared.token.LexFault.TheVariants as lex_fault
use Rattle.gql_text.specs.declared.front.Part.{Part}
use Rattle.gql_text.specs.declared.front.Part.TheVariants.{Dropped, Taken, Refused}
use Rattle.gql_text.specs.declared.front.Piece.{Piece}
use Rattle.gql_text.specs.declared.front.Piece.TheVariants.{Closes, Goes, Stops}

-- the offset in its token where a refusal is reported: the opening quote for unfinished text, else
-- the piece
abbrev pub refused_at : LexRefusal → ℕ → ℕ
refused_at UnfinishedText n = 0
refused_at refusal n = n

-- Reading a string piece by piece: n bytes of it are read, these bytes are left, and the result is
-- this part.
pub data Run (piece_of : List ℕ → Piece) (kind : Kind) : ℕ → List ℕ → Part → Type 0 where
  closes : {n k m : ℕ} {bs : List ℕ} → piece_of bs ≡ Closes k → m ≡ n + k
      → Run piece_of kind n bs (Taken kind m)
  goes : {n k : ℕ} {bs : List ℕ} {p : Part} → piece_of bs ≡ Goes k
      → Run piece_of kind (n + k) (drop k bs) p → Run piece_of kind n bs p
  stops : {n m : ℕ} {bs : List ℕ} {refusal : LexRefusal} → piece_of bs ≡ Stops refusal
      → m ≡ refused_at refusal n
      → Run piece_of kind n bs (Refused refusal m)

-- this part is at the front of the text: n ignored bytes, a token of n bytes, or a refusal n bytes
-- ahead
pub data Stands : List ℕ → Part → Type 0 where
  block_string : {text : List ℕ} {p : Part} → three_quotes text ≡ true
      → Run block_piece BlockString 3 (drop 3 text) p → Stands text p
  string : {text : List ℕ} {p : Part} → one_quote text ≡ true
      → Run string_piece StringValue 1 (drop 1 text) p → Stands text p
  plain : {b : ℕ} {bs : List ℕ} {p : Part} → three_quotes (b ∷ bs) ≡ false
      → one_quote (b ∷ bs) ≡ false → p ≡ plain_part b bs → Stands (b ∷ bs) p

-- the rest of a text, after the bytes before it, is these tokens
pub data Tokens : List ℕ → List ℕ → List Lexeme → Type 0 where
  at_end : {before : List ℕ} → Tokens before [] []
  dropped : {before rest : List ℕ} {n : ℕ} {tokens : List Lexeme}
      → Stands rest (Dropped n) → Tokens (before ++ take n rest) (drop n rest) tokens
      → Tokens before rest tokens
  token : {before rest : List ℕ} {kind : Kind} {n : ℕ} {tokens : List Lexeme}
      → Stands rest (Taken kind n) → Tokens (before ++ take n rest) (drop n rest) tokens
      → Tokens before rest (record { kind = kind; text = take n rest; place = place_after before }
      ∷ tokens)

-- the rest of a text, after the bytes before it, has this fault first, at this place
pub data Faulty : List ℕ → List ℕ → LexRefusal → Place → Type 0 where
  here : {before rest : List ℕ} {refusal : LexRefusal} {n : ℕ} {place : Place}
      → Stands rest (Refused refusal n) → place ≡ place_after (before ++ take n rest)
      → Faulty before rest refusal place
  behind_dropped : {before rest : List ℕ} {n : ℕ} {refusal : LexRefusal} {place : Place}
      → Stands rest (Dropped n) → Faulty (before ++ take n rest) (drop n rest) refusal place
      → Faulty before rest refusal place
  behind_token : {before rest : List ℕ} {kind : Kind} {n : ℕ} {refusal : LexRefusal} {place : Place}
      → Stands rest (Taken kind n) → Faulty (before ++ take n rest) (drop n rest) refusal place
      → Faulty before rest refusal place

-- how many bytes a text may have, where nothing else is said
abbrev pub text_limit : ℕ
text_limit = 65536

-- the greatest limit that a caller may give
abbrev pub longest_text : ℕ
longest_text = 16777216

-- the text, of at most so many bytes, is these tokens
pub record IsLexed (limit : ℕ) (source : List ℕ) (tokens : List Lexeme) : Type 0 where
  pub short : length source ≤ limit
  pub tokens_of : Tokens [] source tokens

-- the text has this fault, at this place, where a text may have so many bytes
pub data LexFails (limit : ℕ) : List ℕ → LexRefusal → Place → Type 0 where
  too_long : {source : List ℕ} {place : Place} → limit < length source → place ≡ place_after []
      → LexFails limit source TooLong place
  first : {source : List ℕ} {refusal : LexRefusal} {place : Place} → length source ≤ limit
      → Faulty [] source refusal place
      → LexFails limit source refusal place

-- what the lexer may answer for a text with a fault: this fault, or `Memory`
abbrev pub IsLexFault : ℕ → List ℕ → LexFault → Type 0
IsLexFault limit source (lex_fault.At number place) = LexFails limit source number place
IsLexFault limit source lex_fault.Memory = Unit {0}
