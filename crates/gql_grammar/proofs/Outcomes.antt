-- One outcome for each list of tokens.
use Rattle.std.proofs.Common.{◌≡◌, ◌<◌, ℕ, List, [], ◌∷◌, length, Result, Ok, Err, Bool, sym, refl, ◌∙◌, ap, subst, arith}
use Rattle.gql_text.specs.Lexeme.{Lexeme}
use Rattle.gql_grammar.specs.Symbol.{Symbol, Outcome, Derives, Fails, IsRest, Reads, Answers, end}
use Rattle.gql_grammar.specs.declared.error.ParseError.{ParseError}
use Rattle.gql_grammar.specs.declared.error.ParseError.TheVariants.{Memory, Unexpected}

pub end_none : (ts : List Lexeme) → length ts ≡ 0 → end.read ts ≡ Ok (tt, ts)
unfolding end
end_none [] h = refl
end_none (t ∷ ts) h = absurd (omega arith)

pub end_some : (ts : List Lexeme) → 0 < length ts → end.read ts ≡ Err ts
unfolding end
end_some [] h = absurd (omega arith)
end_some (t ∷ ts) h = refl

pub values_same : {A : Type 0} (a b : A) → ◌≡◌ {A = Outcome A} (Ok (a, [])) (Ok (b, [])) → a ≡ b
values_same {A = A} a b h = let same : ◌≡◌ {A = A × List Lexeme} (a, []) (b, []) = cc in ap (λ p. p.0) same

pub apart : {A : Type 0} (a : A) (k : List Lexeme) → ◌≡◌ {A = Outcome A} (Ok (a, [])) (Err k) → ⊥
apart a k h = cc

pub places_same : {A : Type 0} (j k : List Lexeme) → ◌≡◌ {A = Outcome A} (Err j) (Err k) → j ≡ k
places_same j k h = cc

module _ {A : Type 0} {d : ℕ → ℕ} {s : Bool} (p : Symbol d s A) (ts : List Lexeme) where
  pub one_value : (a b : A) → Derives p ts a [] → Derives p ts b [] → a ≡ b
  one_value a b h k = values_same a b (sym (p.only ts (Ok (a, [])) h) ∙ p.only ts (Ok (b, [])) k)

  pub no_fault : (a : A) (k : List Lexeme) → Derives p ts a [] → Fails p ts k → ⊥
  no_fault a k h f = apart a k (sym (p.only ts (Ok (a, [])) h) ∙ p.only ts (Err k) f)

  pub one_place : (j k : List Lexeme) → Fails p ts j → Fails p ts k → j ≡ k
  one_place j k h f = places_same j k (sym (p.only ts (Err j) h) ∙ p.only ts (Err k) f)

-- what is read is what the symbol derives, and where it fails
pub answers : {A : Type 0} {d : ℕ → ℕ} {s : Bool} (p : Symbol d s A) (old : List Lexeme) (r : Result A ParseError) (new : List Lexeme) → Reads (p.read old) r new → IsRest new old → Answers p old r new
answers p old (Ok a) new h k = subst (p.Allows old) h (p.holds old)
answers p old (Err Unexpected) new h k = subst (p.Allows old) (h refl) (p.holds old)
answers p old (Err Memory) new h k = k

-- what a call answers is what is read
pub answered_value : {A : Type 0} {d : ℕ → ℕ} {s : Bool} (p : Symbol d s A) (old : List Lexeme) (a : A) (new : List Lexeme) → Answers p old (Ok a) new → p.read old ≡ Ok (a, new)
answered_value p old a new h = p.only old (Ok (a, new)) h

-- two symbols that read alike allow the same outcomes
pub same_allows : {A : Type 0} {d e : ℕ → ℕ} {s t : Bool} (p : Symbol d s A) (q : Symbol e t A) → ((ts : List Lexeme) → p.read ts ≡ q.read ts) → (ts : List Lexeme) (o : Outcome A) → p.Allows ts o → q.Allows ts o
same_allows p q h ts o k = subst (λ x. q.Allows ts x) (sym (h ts) ∙ p.only ts o k) (q.holds ts)
