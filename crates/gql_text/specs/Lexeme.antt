-- A token as contracts see it: its text is a list of bytes, not a borrowed slice.
use Rattle.std.specs.Prelude.{ℕ, List}
use Rattle.gql_text.specs.declared.place.Place.{Place}
use Rattle.gql_text.specs.declared.token.Kind.{Kind}
use Rattle.gql_text.specs.declared.token.Token.{Token}

-- a lexical token: its kind, the bytes of its text, and where it starts
pub record Lexeme : Type 0 where
  pub kind : Kind
  pub text : List ℕ
  pub place : Place

-- a token of the code, as contracts see it
abbrev pub lexeme : Token → Lexeme
lexeme t = record { kind = t.kind; text = t.text.now; place = t.place }
