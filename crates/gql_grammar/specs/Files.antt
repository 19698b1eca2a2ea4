-- Whole texts: which the grammar accepts, and where it refuses the others.
use Rattle.std.specs.Prelude.{◌≡◌, ◌≢◌, ◌⊎◌, ℕ, ◌≤◌, ◌-◌, Bool, List, [], ◌∷◌, length, drop, if◌then◌else◌, Result, Ok, Err}
use lib.Dec.{leb}
use Rattle.gql_text.specs.Lexeme.{Lexeme}
use Rattle.gql_text.specs.declared.place.Place.{Place}
use Rattle.gql_text.specs.declared.token.LexRefusal.{LexRefusal}
use Rattle.gql_text.specs.declared.token.LexRefusal.TheVariants as lex
use Rattle.gql_text.specs.declared.token.LexFault.{LexFault}
use Rattle.gql_text.specs.declared.token.LexFault.TheVariants as lexed
use Rattle.gql_grammar.specs.declared.fault.SyntaxRefusal.{SyntaxRefusal}
use Rattle.gql_grammar.specs.declared.fault.SyntaxRefusal.TheVariants as r
use Rattle.gql_grammar.specs.declared.fault.SyntaxFault.{SyntaxFault}
use Rattle.gql_grammar.specs.declared.fault.SyntaxFault.TheVariants.{At, Memory}
use Rattle.gql_grammar.specs.declared.error.ParseError.{ParseError}
use Rattle.gql_grammar.specs.declared.error.ParseError.TheVariants as e
use Rattle.gql_grammar.specs.Levels.{depth, most_levels, looked_at}
use Rattle.gql_grammar.specs.Symbol.{Symbol, Derives, Fails}

-- the error code of a refusal: 101 to 106, 111 or 112
abbrev pub number_of : SyntaxRefusal → ℕ
number_of r.BadCharacter = 101
number_of r.BadNumber = 102
number_of r.UnfinishedText = 103
number_of r.BadEscape = 104
number_of r.LoneSurrogate = 105
number_of r.TooLong = 106
number_of r.Unexpected = 111
number_of r.TooDeep = 112

-- a refusal of the lexer, as a syntax refusal
abbrev pub refusal_of : LexRefusal → SyntaxRefusal
refusal_of lex.BadCharacter = r.BadCharacter
refusal_of lex.BadNumber = r.BadNumber
refusal_of lex.UnfinishedText = r.UnfinishedText
refusal_of lex.BadEscape = r.BadEscape
refusal_of lex.LoneSurrogate = r.LoneSurrogate
refusal_of lex.TooLong = r.TooLong

-- a fault of the lexer, as a syntax fault
abbrev pub fault_of : LexFault → SyntaxFault
fault_of (lexed.At number place) = At (refusal_of number) place
fault_of lexed.Memory = Memory

-- the symbol derives the tokens, all of them, as the value, and at most 100 levels are open at one
-- time
abbrev pub Accepts : {A : Type 0} {d : ℕ → ℕ} {s : Bool} → Symbol d s A → List Lexeme → A → Type 0
Accepts p ts a = Derives p ts a [] × (depth ts ≤ most_levels)

-- the place of the first of the tokens, or the end of the text if there is none
abbrev pub first_place : Place → List Lexeme → Place
first_place end [] = end
first_place end (t ∷ ts) = t.place

-- the place of the last of the tokens, or the end of the text if there is none
abbrev pub last_place : Place → List Lexeme → Place
last_place end ts = first_place end (drop (length ts - 1) ts)

-- The fault of tokens that are refused, from the end of the text and the tokens left at the
-- failure. It is at the first token left, which cannot appear there. If none is left, it is at the
-- end of the text; or, if too many levels are open, at the last token that is read.
abbrev pub fault_by : Place → List Lexeme → List Lexeme → SyntaxFault
fault_by end ts [] = if leb (depth ts) most_levels then At r.Unexpected end
    else At r.TooDeep (last_place end (looked_at ts))
fault_by end ts (t ∷ rest) = At r.Unexpected t.place

-- the tokens are refused with this fault: the symbol fails on those that are read (`looked_at`)
abbrev pub Refuses : {A : Type 0} {d : ℕ → ℕ} {s : Bool} → Symbol d s A → Place → List Lexeme
    → SyntaxFault → Type 0
Refuses p end ts fault =
    (at : List Lexeme) × Fails p (looked_at ts) at × (fault_by end ts at ≡ fault)

-- What a function that parses whole texts returns: the value of the tokens that are read, their
-- fault, or `Memory`.
abbrev pub Parses : {A : Type 0} {d : ℕ → ℕ} {s : Bool} → Symbol d s A → Place → List Lexeme
    → Result A SyntaxFault → Type 0
Parses p end ts (Ok a) = p.read (looked_at ts) ≡ Ok (a, [])
Parses p end ts (Err fault) = fault ≢ Memory
    → (at : List Lexeme) × (p.read (looked_at ts) ≡ Err at) × (fault_by end ts at ≡ fault)

-- The fault for an error of a parsing function that left these tokens.
abbrev pub placed : Place → List Lexeme → List Lexeme → ParseError → SyntaxFault
placed end ts left e.Memory = Memory
placed end ts left e.Unexpected = fault_by end ts left

-- the result is this answer, or `Memory` if an allocation failed
abbrev pub OrMemory : {A : Type 0} → Result A SyntaxFault → Result A SyntaxFault → Type 0
OrMemory result answer = (result ≡ answer) ⊎ (result ≡ Err Memory)
