-- Helper definitions for private contracts: how far a part of a text goes.
use Rattle.std.specs.Prelude.{ℕ, ◌≡◌, ◌≤◌, ◌<◌, ◌+◌, List, Bool, true, false, ◌&&◌, ◌==◌, not, nat_le, nat_lt}
use Rattle.std.specs.Str.{IsCharBoundary}
use Rattle.gql_text.specs.Chars.{is_source_byte}
use Rattle.gql_text.specs.declared.token.Kind.{Kind}
use Rattle.gql_text.specs.declared.token.Kind.TheVariants.{IntValue, FloatValue, StringValue, BlockString}
use Rattle.gql_text.specs.declared.front.Part.{Part}
use Rattle.gql_text.specs.declared.front.Part.TheVariants.{Dropped, Taken, Refused}

-- how many bytes a part has; for a refusal, how many are before its place
abbrev pub part_len : Part → ℕ
part_len (Dropped n) = n
part_len (Taken kind n) = n
part_len (Refused refusal n) = n

-- whether the part is a refusal
abbrev pub is_refused : Part → Bool
is_refused (Dropped n) = false
is_refused (Taken kind n) = false
is_refused (Refused refusal n) = true

-- a part lies in a text of that length, and has more than n bytes unless it is refused
pub record Fits (n len : ℕ) (p : Part) : Type 0 where
  pub some : is_refused p ≡ false → n < part_len p
  pub within : part_len p ≤ len

-- the part ends at the boundary of a character, unless it is refused
abbrev pub CutsBehind : List ℕ → ℕ → Part → Type 0
CutsBehind source offset p = is_refused p ≡ false → IsCharBoundary source (offset + part_len p)

-- a byte that is a character by itself and ends no line
abbrev pub is_plain : ℕ → Bool
is_plain b = nat_le 32 b && nat_lt b 128

-- whether a token of this kind is a number or a text
abbrev pub is_value : Kind → Bool
is_value IntValue = true
is_value FloatValue = true
is_value StringValue = true
is_value BlockString = true
is_value _ = false

-- a byte that is by itself a part of a string and of a block string: it is in no escape, and closes
-- neither
abbrev pub is_simple : ℕ → Bool
is_simple b = is_source_byte b && not (b == 34) && not (b == 92)
