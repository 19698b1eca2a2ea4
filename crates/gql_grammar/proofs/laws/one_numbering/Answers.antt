use Rattle.std.proofs.Common.{◌≡◌, refl}
use Rattle.gql_text.specs.Numbers.{number_of as lexer_number}
use Rattle.gql_text.specs.declared.token.LexRefusal.{LexRefusal}
use Rattle.gql_text.specs.declared.token.LexRefusal.TheVariants as lex
use Rattle.gql_grammar.specs.Files.{number_of, refusal_of}
use Rattle.gql_grammar.proofs.laws.one_numbering.Goals as goal

same_number : (r : LexRefusal) → number_of (refusal_of r) ≡ lexer_number r
same_number lex.BadCharacter = refl
same_number lex.BadNumber = refl
same_number lex.UnfinishedText = refl
same_number lex.BadEscape = refl
same_number lex.LoneSurrogate = refl
same_number lex.TooLong = refl

pub returns : goal.returns
returns c r = same_number r
