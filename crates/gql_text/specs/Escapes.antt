-- Helper definitions for private contracts: escapes and line ends at the front of a text.
use Rattle.std.specs.Prelude.{ℕ, ◌≡◌, List, ◌∷◌, Bool, true, false, ◌&&◌, ◌==◌, if◌then◌else◌}
use Rattle.gql_text.specs.Chars.{is_break, begins}
use Rattle.gql_text.specs.declared.front.Piece.{Piece}
use Rattle.gql_text.specs.declared.front.Piece.TheVariants.{Goes}

-- whether the piece belongs to the string
abbrev pub goes : Piece → Bool
goes (Goes n) = true
goes _ = false

-- a backslash is at the front
abbrev pub StartsEscape : List ℕ → Type 0
StartsEscape bs = (rest : List ℕ) × (bs ≡ 92 ∷ rest)

-- a line end is at the front
abbrev pub BreaksLine : List ℕ → Type 0
BreaksLine bs = begins is_break bs ≡ true

-- whether CRLF is at the front
abbrev pub begins_pair : List ℕ → Bool
begins_pair (b ∷ c ∷ bs) = b == 13 && c == 10
begins_pair _ = false

-- how many bytes the line end at the front has
abbrev pub break_len : List ℕ → ℕ
break_len bs = if begins_pair bs then 2 else 1
