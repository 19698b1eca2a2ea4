-- Helper definitions for the laws of tokens and faults.
use Rattle.std.specs.Prelude.{ℕ, ◌≡◌, ◌+◌, ◌⊎◌, List, length, slice_range}
use Rattle.gql_text.specs.Lexeme.{Lexeme}
use Rattle.gql_text.specs.Lexis.{Stands, IsLexed, LexFails}
use Rattle.gql_text.specs.declared.place.Place.{Place}
use Rattle.gql_text.specs.declared.token.Kind.{Kind}
use Rattle.gql_text.specs.declared.token.LexRefusal.{LexRefusal}
use Rattle.gql_text.specs.declared.front.Part.TheVariants.{Taken}

-- the text has a list of tokens, or a fault, where it may have so many bytes
abbrev pub HasReading : ℕ → List ℕ → Type 0
HasReading limit source = ((tokens : List Lexeme) × IsLexed limit source tokens)
    ⊎ ((refusal : LexRefusal) × (place : Place) × LexFails limit source refusal place)

-- the text of the token is the part of the source at its place
abbrev pub IsSliceOf : List ℕ → Lexeme → Type 0
IsSliceOf source token =
    token.text ≡ slice_range source token.place.offset (token.place.offset + length token.text)

-- the text as a whole is one token of that kind
abbrev pub IsToken : Kind → List ℕ → Type 0
IsToken kind text = Stands text (Taken kind (length text))
