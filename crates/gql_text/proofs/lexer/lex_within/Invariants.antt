use Rattle.std.proofs.Common.{◌≡◌, ◌-◌, ◌≤◌, take, drop, length, List, [], ◌++◌, map}
use Rattle.std.specs.Str.{IsCharBoundary}
use Rattle.gql_text.specs.Lexis.{Tokens, Faulty}
use Rattle.gql_text.specs.Lexeme.{Lexeme, lexeme}
use Rattle.gql_text.specs.Place.{place_after}
use Rattle.gql_text.specs.declared.place.Place.{Place}
use Rattle.gql_text.specs.declared.token.LexRefusal.{LexRefusal}
use Rattle.gql_text.proofs.lexer.lex_within.Given as goal

abbrev pub invariant-parts : goal.invariant-parts
invariant-parts l = record {
  short : length l.source ≤ 16777216;
  within : l.place.offset ≤ length l.source;
  known : l.place ≡ place_after (take l.place.offset l.source);
  cut : IsCharBoundary l.source l.place.offset;
  tokens : (ts : List Lexeme) → Tokens (take l.place.offset l.source) (drop l.place.offset l.source) ts → Tokens [] l.source (map lexeme l.tokens.items ++ ts);
  fault : (f : LexRefusal) (p : Place) → Faulty (take l.place.offset l.source) (drop l.place.offset l.source) f p → Faulty [] l.source f p;
}

abbrev pub decreases-parts : goal.decreases-parts
decreases-parts l = length l.source - l.place.offset
