-- Source texts: which a symbol accepts, and the faults of the others.
use Rattle.std.specs.Prelude.{◌≡◌, ◌⊎◌, ℕ, Bool, List}
use Rattle.gql_text.specs.Lexeme.{Lexeme}
use Rattle.gql_text.specs.Lexis.{IsLexed, LexFails}
use Rattle.gql_text.specs.Place.{place_after}
use Rattle.gql_text.specs.declared.place.Place.{Place}
use Rattle.gql_text.specs.declared.token.LexRefusal.{LexRefusal}
use Rattle.gql_grammar.specs.Symbol.{Symbol}
use Rattle.gql_grammar.specs.Files.{Accepts, Refuses, refusal_of}
use Rattle.gql_grammar.specs.declared.fault.SyntaxFault.{SyntaxFault}
use Rattle.gql_grammar.specs.declared.fault.SyntaxFault.TheVariants.{At}

-- the symbol accepts the tokens of the source, of at most so many bytes, as this value
abbrev pub IsSourceOf : {A : Type 0} {d : ℕ → ℕ} {s : Bool} → Symbol d s A → ℕ → List ℕ → A
    → Type 0
IsSourceOf p limit source a = (ts : List Lexeme) × IsLexed limit source ts × Accepts p ts a

-- the fault of a source, where it may have so many bytes: one of the lexer, or one with which the
-- symbol refuses its tokens
abbrev pub IsFaultOf : {A : Type 0} {d : ℕ → ℕ} {s : Bool} → Symbol d s A → ℕ → List ℕ
    → SyntaxFault → Type 0
IsFaultOf p limit source fault =
    ((number : LexRefusal) × (place : Place) × LexFails limit source number place
    × (At (refusal_of number) place ≡ fault))
    ⊎ ((ts : List Lexeme) × IsLexed limit source ts × Refuses p (place_after source) ts fault)
