-- Laws of the text of a literal.
use Rattle.std.specs.Prelude.{◌≡◌, ◌≤◌, ℕ, List, [], ◌++◌, length, Bool}
use Rattle.gql_text.specs.Lexeme.{Lexeme}
use Rattle.gql_text.specs.Lexis.{IsLexed}
use Rattle.gql_ast.specs.LiteralTexts.{literal_text}
use Rattle.gql_ast.specs.declared.literal.Literal.{Literal}
use Rattle.gql_grammar.specs.Levels.{depth}
use Rattle.gql_grammar.specs.Symbol.{Derives}
use Rattle.gql_parse.specs.Values.{value}
use Rattle.gql_printed.specs.Same.{HaveSameValue}
use Rattle.gql_printed.specs.Written.{IsWritten}

-- the tokens of the text, all of them, derive a literal of the same value, where a text may have so
-- many bytes
pub record IsTextOf (limit : ℕ) (constant : Bool) (text : List ℕ) (literal : Literal) : Type 0 where
  pub tokens : List Lexeme
  pub parsed : Literal
  pub lexed : IsLexed limit text tokens
  pub derived : Derives (value constant) tokens parsed []
  pub same_value : HaveSameValue parsed literal

-- some tokens of the source, one after another, derive the literal, where a source may have so many
-- bytes
pub record IsFound (limit : ℕ) (constant : Bool) (source : List ℕ) (literal : Literal) : Type 0
  where
    pub tokens : List Lexeme
    pub lexed : IsLexed limit source tokens
    pub earlier : List Lexeme
    pub part : List Lexeme
    pub later : List Lexeme
    pub parts : earlier ++ (part ++ later) ≡ tokens
    pub rest : List Lexeme
    pub derived : Derives (value constant) part literal rest

-- the text of a literal that a document can write parses to the same value
abbrev pub WrittenIsParsed : Type 0
WrittenIsParsed = (limit : ℕ) (constant : Bool) (literal : Literal) → IsWritten constant literal
    → length (literal_text literal) ≤ limit → IsTextOf limit constant (literal_text literal) literal

-- the text of a literal that a document can write parses to no other value
abbrev pub OnlySameValue : Type 0
OnlySameValue = (limit : ℕ) (constant : Bool) (literal : Literal) → IsWritten constant literal
    → (tokens : List Lexeme) (parsed : Literal) → IsLexed limit (literal_text literal) tokens
    → Derives (value constant) tokens parsed [] → HaveSameValue parsed literal

-- a literal that is found in a text is one that a document can write
abbrev pub FoundIsWritten : Type 0
FoundIsWritten = (limit : ℕ) (constant : Bool) (source : List ℕ) (literal : Literal)
    → IsFound limit constant source literal
    → IsWritten constant literal

-- the text of a literal that is found in a text parses to the same value
abbrev pub FoundIsParsed : Type 0
FoundIsParsed = (limit most : ℕ) (constant : Bool) (source : List ℕ) (literal : Literal)
    → IsFound limit constant source literal
    → length (literal_text literal) ≤ most → IsTextOf most constant (literal_text literal) literal

-- the text of a literal opens no more levels at one time than the text in which it is found
abbrev pub LevelsAreKept : Type 0
LevelsAreKept = (limit most : ℕ) (constant : Bool) (source : List ℕ) (literal : Literal)
    (found : IsFound limit constant source literal)
    → (text : IsTextOf most constant (literal_text literal) literal)
    → depth text.tokens ≤ depth found.tokens
