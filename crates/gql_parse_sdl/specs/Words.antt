-- Symbols that depend on the text of the next token.
use Rattle.std.specs.Prelude.{ℕ, List, Bool}
use Rattle.gql_grammar.specs.Symbol.{Symbol, text_of}

-- the symbol for the text of the next token
abbrev pub by_text : {A : Type 0} {d : ℕ → ℕ} {s : Bool} → (List ℕ → Symbol d s A) → Symbol d s A
by_text f = record {
  read = λ ts. (f (text_of ts)).read ts;
  Allows = λ ts o. (f (text_of ts)).Allows ts o;
  holds = λ ts. (f (text_of ts)).holds ts;
  only = λ ts o h. (f (text_of ts)).only ts o h;
  takes = λ ts. (f (text_of ts)).takes ts;
  shifts = λ ts. (f (text_of ts)).shifts ts;
}
