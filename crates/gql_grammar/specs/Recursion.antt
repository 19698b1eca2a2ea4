-- Symbols whose rule contains the symbol itself.
use Rattle.std.specs.Prelude.{ℕ, zero, suc, length}
use Rattle.gql_grammar.specs.Symbol.{Phrase, refuse}

-- the rule unfolded this many times; deeper than that, it refuses
unfoldable pub nested : {A : Type 0} → (Phrase A → Phrase A) → ℕ → Phrase A
nested rule zero = refuse
nested rule (suc n) = rule (nested rule n)

-- The symbol of a recursive rule. Each unfolding takes a token, so one more than the count of
-- tokens is enough.
unfoldable pub recursive : {A : Type 0} → (Phrase A → Phrase A) → Phrase A
recursive rule = record {
  read = λ ts. (nested rule (suc (length ts))).read ts;
  Allows = λ ts o. (nested rule (suc (length ts))).Allows ts o;
  holds = λ ts. (nested rule (suc (length ts))).holds ts;
  only = λ ts o h. (nested rule (suc (length ts))).only ts o h;
  takes = λ ts. (nested rule (suc (length ts))).takes ts;
  shifts = λ ts. (nested rule (suc (length ts))).shifts ts;
}
