-- What tokens derive.
use Rattle.std.proofs.Common.{◌≡◌, ℕ, List, ◌∷◌, refl, sym, ap, Bool, true, false, Ok, inr}
use Rattle.std.specs.Prelude.{codes, not}
use Rattle.gql_text.specs.Kinds.{same_kind_same}
use Rattle.gql_text.specs.Lexeme.{Lexeme}
use Rattle.gql_text.specs.Values.{text_value}
use Rattle.gql_text.specs.declared.place.Place.{Place}
use Rattle.gql_text.specs.declared.token.Kind.TheVariants as k
use Rattle.gql_ast.specs.declared.literal.Literal.{Literal}
use Rattle.gql_ast.specs.declared.literal.Literal.TheVariants as l
use Rattle.gql_grammar.specs.Symbol.{Derives, sees, before, token}
use Rattle.gql_grammar.proofs.Outcomes.{same_allows}
use Rattle.gql_parse.specs.Names.{name, name_of}
use Rattle.gql_parse.specs.Values.{value, value_of, variable, int, float, string, word_literal, word_value}
use Rattle.gql_parse.proofs.Rules.{value_is}

-- a value is derived by its own rule
pub by_rule : (c : Bool) (ts rest : List Lexeme) (x : Literal)
    → Derives (value_of c (value c)) ts x rest → Derives (value c) ts x rest
by_rule c ts rest x h =
    same_allows (value_of c (value c)) (value c) (λ us. sym (value_is c us)) ts (Ok (x, rest)) h

pub sees_itself : (t : Lexeme) (ts : List Lexeme) → sees t.kind (t ∷ ts) ≡ true
unfolding sees
sees_itself t ts = same_kind_same t.kind t.kind refl

pub closed : (t : Lexeme) (ts : List Lexeme) → before t.kind (t ∷ ts) ≡ false
unfolding before
closed t ts = ap not (sees_itself t ts)

pub token_is : (t : Lexeme) (ts : List Lexeme) → Derives (token t.kind) (t ∷ ts) t ts
unfolding token
token_is t ts = (sees_itself t ts, refl, refl)

pub name_is : (text : List ℕ) (p : Place) (ts : List Lexeme)
    → Derives name (record { kind = k.Name; text = text; place = p } ∷ ts)
    (record { place = p; text = text }) ts
unfolding name
name_is text p ts = inr (
  record { kind = k.Name; text = text; place = p },
  ts,
  token_is
      (record { kind = k.Name; text = text; place = p }) ts,
  refl,
)

-- ---- values of one token

pub int_is : (c : Bool) (text : List ℕ) (p : Place) (ts : List Lexeme)
    → Derives (value c) (record { kind = k.IntValue; text = text; place = p } ∷ ts)
    (l.Int p text) ts
unfolding int
int_is c text p ts = let t : Lexeme =
    record { kind = k.IntValue; text = text; place = p } in by_rule c (t ∷ ts) ts (l.Int p text)
    (inr (t, ts, token_is t ts, refl))

pub float_is : (c : Bool) (text : List ℕ) (p : Place) (ts : List Lexeme)
    → Derives (value c) (record { kind = k.FloatValue; text = text; place = p } ∷ ts)
    (l.Float p text) ts
unfolding float
float_is c text p ts = let t : Lexeme =
    record { kind = k.FloatValue; text = text; place = p } in by_rule c (t ∷ ts) ts (l.Float p text)
    (inr (t, ts, token_is t ts, refl))

pub string_is : (c : Bool) (text : List ℕ) (p : Place) (ts : List Lexeme)
    → Derives (value c) (record { kind = k.StringValue; text = text; place = p } ∷ ts)
    (l.String p (text_value text)) ts
unfolding string
string_is c text p ts = let t : Lexeme =
    record { kind = k.StringValue; text = text; place = p } in by_rule c (t ∷ ts) ts
    (l.String p (text_value text)) (inr (t, ts, token_is t ts, refl))

pub word_is : (c : Bool) (text : List ℕ) (p : Place) (x : Literal) (ts : List Lexeme)
    → word_value (record { kind = k.Name; text = text; place = p }) ≡ x
    → Derives (value c) (record { kind = k.Name; text = text; place = p } ∷ ts) x ts
unfolding word_literal
word_is c text p x ts e = let t : Lexeme =
    record { kind = k.Name; text = text; place = p } in by_rule c (t ∷ ts) ts x
    (inr (t, ts, token_is t ts, ap (λ y. Ok (y, ts)) e))

pub variable_is : (text : List ℕ) (p q : Place) (ts : List Lexeme)
    → Derives (value false)
    (record { kind = k.Dollar; text = codes "$"; place = p }
    ∷ record { kind = k.Name; text = text; place = q } ∷ ts) (l.Variable p text) ts
unfolding variable
variable_is text p q ts =
    let t : Lexeme = record { kind = k.Dollar; text = codes "$"; place = p } in
    let n : Lexeme = record { kind = k.Name; text = text; place = q } in
    by_rule false (t ∷ n ∷ ts) ts (l.Variable p text)
    (inr (t, n ∷ ts, token_is t (n ∷ ts), inr (name_of n, ts, name_is text q ts, refl)))
