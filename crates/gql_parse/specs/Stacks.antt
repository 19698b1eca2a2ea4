-- What a function that puts what it reads on a stack ensures.
use Rattle.std.specs.Prelude.{◌≡◌, List, [], ◌∷◌, ◌++◌, Result, Ok, Err}
use Rattle.gql_text.specs.Lexeme.{Lexeme}
use Rattle.gql_grammar.specs.Symbol.{Outcome, and_then}
use Rattle.gql_grammar.specs.declared.error.ParseError.{ParseError}
use Rattle.gql_grammar.specs.declared.error.ParseError.TheVariants as errors

-- the value of the outcome is put on the stack, and the tokens after it are left; an error is as
-- that of `Reads`
abbrev pub Adds : {A : Type 0} → List A → List A → Outcome A → Result (Unit {0}) ParseError
    → List Lexeme → Type 0
Adds old new outcome (Ok u) rest = and_then outcome (λ x us. Ok (old ++ x ∷ [], us)) ≡ Ok (new, rest)
Adds old new outcome (Err e) rest = e ≡ errors.Unexpected → outcome ≡ Err rest
