-- The error codes of the lexer.
use Rattle.std.specs.Prelude.{ℕ}
use Rattle.gql_text.specs.declared.token.LexRefusal.{LexRefusal}
use Rattle.gql_text.specs.declared.token.LexRefusal.TheVariants.{BadCharacter, BadNumber, UnfinishedText, BadEscape, LoneSurrogate, TooLong}

-- the error code of a refusal, 101 to 106
abbrev pub number_of : LexRefusal → ℕ
number_of BadCharacter = 101
number_of BadNumber = 102
number_of UnfinishedText = 103
number_of BadEscape = 104
number_of LoneSurrogate = 105
number_of TooLong = 106
