-- Worked examples: texts of literals, parsed.
use Rattle.std.specs.Prelude.{◌≡◌, ℕ, List, [], ◌∷◌, ◌++◌, codes, true, Ok, refl}
use Rattle.gql_text.specs.Lexeme.{Lexeme}
use Rattle.gql_text.specs.Kinds.{same_kind}
use Rattle.gql_text.specs.Lexis.{Tokens, token, dropped, at_end, plain, string, goes, closes}
use Rattle.gql_text.specs.Marks.{plain_part}
use Rattle.gql_text.specs.Pieces.{string_piece, escape_piece, four_digits, escaped_number}
use Rattle.gql_text.specs.Values.{text_value, string_value, escape_value}
use Rattle.gql_text.specs.declared.place.Place.{Place}
use Rattle.gql_text.specs.declared.token.Kind.{Kind}
use Rattle.gql_text.specs.declared.token.Kind.TheVariants as k
use Rattle.gql_ast.specs.LiteralTexts.{Text, escaped, string_text}
use Rattle.gql_ast.specs.declared.literal.Literal.TheVariants as l
use Rattle.gql_grammar.specs.Recursion.{nested, recursive}
use Rattle.gql_grammar.specs.Repetition.{while_from}
use Rattle.gql_grammar.specs.Symbol as y
use Rattle.gql_parse.specs.Values as v

-- a string with a quote, a backslash, a line end, the character U+001F and a character of two bytes
abbrev some_string : Text
some_string = codes "a\"\\" ++ 10 ∷ 31 ∷ 195 ∷ 169 ∷ []

-- the text of that string, and the value of that text
text_of_string : string_text some_string ≡ codes "\"a\\\"\\\\\\n\\u001f" ++ 195 ∷ 169 ∷ codes "\""
unfolding escaped
text_of_string = refl

string_again : text_value (string_text some_string) ≡ some_string
unfolding text_value string_value escape_piece escape_value four_digits escaped_number escaped
    lib.Utf8.encode
string_again = refl

-- `["\n", A]`
abbrev list_text : Text
list_text = codes "[\"\\n\", A]"

-- a place on the first line
abbrev at : ℕ → ℕ → Place
at column offset = record { line = 1; column = column; offset = offset }

-- a token of this kind and text, at a place
abbrev one : Kind → Text → Place → Lexeme
one kind text place = record { kind = kind; text = text; place = place }

-- the tokens of that text
abbrev list_tokens : List Lexeme
list_tokens =
    one k.LeftBracket (codes "[") (at 1 0)
    ∷ one k.StringValue (codes "\"\\n\"") (at 2 1)
    ∷ one k.Name (codes "A") (at 8 7)
    ∷ one k.RightBracket (codes "]") (at 9 8)
    ∷ []

tokens_of_list : Tokens [] list_text list_tokens
unfolding plain_part string_piece escape_piece
tokens_of_list =
    token (plain refl refl refl)
    (token (string refl (goes refl (closes refl refl)))
    (dropped (plain refl refl refl)
    (dropped (plain refl refl refl)
    (token (plain refl refl refl)
    (token (plain refl refl refl) at_end)))))

-- the list that these tokens derive
list_of_tokens : (v.value true).read list_tokens
    ≡ Ok (l.List (at 1 0) (l.String (at 2 1) (10 ∷ []) ∷ l.Enum (at 8 7) (codes "A") ∷ []), [])
unfolding v.value recursive nested v.list_of v.string v.word_literal y.token y.sees y.before
    same_kind while_from text_value string_value escape_piece escape_value four_digits
    escaped_number lib.Utf8.encode
list_of_tokens = refl
