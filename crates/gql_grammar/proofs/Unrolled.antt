-- A recursive symbol is read as its rule with the symbol itself inside, where the rule takes a token first.
use Rattle.std.proofs.Common.{◌≡◌, ℕ, zero, suc, ◌<◌, Bool, true, false, List, [], ◌∷◌, ◌++◌, length, Ok, Err, refl, ap, ◌∙◌, cond, arith}
use Rattle.gql_text.specs.Lexeme.{Lexeme}
use Rattle.gql_grammar.specs.Symbol.{Symbol, Phrase, Outcome, Reader, Leaves, Takes, and_then, choose}
use Rattle.gql_grammar.specs.Repetition.{further, while_from}
use Rattle.gql_grammar.specs.Recursion.{nested, recursive}

-- the two read alike what is shorter than n tokens
abbrev pub Agree : {A : Type 0} {d : ℕ → ℕ} {s : Bool} → ℕ → Symbol d s A → Symbol d s A → Type 0
Agree n p q = (ts : List Lexeme) → length ts < n → p.read ts ≡ q.read ts

-- one part and then others that read alike
no_more : (s : Bool) (m n : ℕ) → Leaves s m n → Leaves false m n
no_more true m n h = omega arith
no_more false m n h = h

pub after : {A B : Type 0} (s : Bool) (n : ℕ) (ts : List Lexeme) (o : Outcome A) (f g : A → Reader B) → length ts < n → Takes s ts o
    → ((a : A) (us : List Lexeme) → length us < n → f a us ≡ g a us) → and_then o f ≡ and_then o g
after s n ts (Ok x) f g less h k = let fewer = no_more s (length x.1) (length ts) h in k x.0 x.1 (omega (arith, fewer))
after s n ts (Err x) f g less h k = refl

-- what stands behind a token is shorter
pub later : {A B : Type 0} (n : ℕ) (ts : List Lexeme) (o : Outcome A) (f g : A → Reader B) → length ts < suc n → Takes true ts o
    → ((a : A) (us : List Lexeme) → length us < n → f a us ≡ g a us) → and_then o f ≡ and_then o g
later n ts (Ok x) f g less h k = k x.0 x.1 (omega (arith, h))
later n ts (Err x) f g less h k = refl

-- two first parts that read alike
pub first : {A B : Type 0} (o p : Outcome A) (f : A → Reader B) → o ≡ p → and_then o f ≡ and_then p f
first o p f h = ap (λ q. and_then q f) h

-- a choice of parts that read alike
pub chosen : {A : Type 0} {d : ℕ → ℕ} {s : Bool} (pass : Bool) (p p' q q' : Symbol d s A) (ts : List Lexeme) → p.read ts ≡ p'.read ts → q.read ts ≡ q'.read ts → (choose pass p q).read ts ≡ (choose pass p' q').read ts
chosen true p p' q q' ts h k = h
chosen false p p' q q' ts h k = k

turn_agrees : {A : Type 0} (n m : ℕ) (test : List Lexeme → Bool) (item other : Phrase A) (found : List A) (ts : List Lexeme) (o : Outcome A) → length ts < n → Takes true ts o
    → ((found : List A) (us : List Lexeme) → length us < n → while_from test item.read m found us ≡ while_from test other.read m found us)
    → and_then o (λ x. while_from test item.read m (found ++ x ∷ [])) ≡ and_then o (λ x. while_from test other.read m (found ++ x ∷ []))
turn_agrees n m test item other found ts (Ok x) less h k = k (found ++ x.0 ∷ []) x.1 (omega (arith, h))
turn_agrees n m test item other found ts (Err x) less h k = refl

while_agrees : {A : Type 0} (n m : ℕ) (test : List Lexeme → Bool) (item other : Phrase A) (found : List A) (ts : List Lexeme) → Agree n item other → length ts < n
    → while_from test item.read m found ts ≡ while_from test other.read m found ts
unfolding while_from
while_agrees n zero test item other found ts h less = refl
while_agrees n (suc m) test item other found ts h less =
    ap (λ o. cond (test ts) o (Ok (found, ts)))
    (turn_agrees n m test item other found ts (item.read ts) less (item.takes ts) (λ f us fewer. while_agrees n m test item other f us h fewer)
    ∙ ap (λ o. and_then o (λ x. while_from test other.read m (found ++ x ∷ []))) (h ts less))

pub agree_further : {A : Type 0} (n : ℕ) (test : List Lexeme → Bool) (item other : Phrase A) (found : List A) → Agree n item other → Agree n (further test item found) (further test other found)
agree_further n test item other found h ts less = while_agrees n (suc (length ts)) test item other found ts h less

-- the rule reads alike where the symbols in it read alike what is shorter
abbrev pub Guarded : {A : Type 0} → (Phrase A → Phrase A) → Type 1
Guarded {A = A} rule = (n : ℕ) (p q : Phrase A) → Agree n p q → Agree (suc n) (rule p) (rule q)

nested_same : {A : Type 0} (rule : Phrase A → Phrase A) → Guarded rule → (n m : ℕ) (ts : List Lexeme) → length ts < n → length ts < m → (nested rule n).read ts ≡ (nested rule m).read ts
unfolding nested
nested_same rule g zero m ts h k = absurd (omega arith)
nested_same rule g (suc n) zero ts h k = absurd (omega arith)
nested_same rule g (suc n) (suc m) ts h k =
    g (length ts) (nested rule n) (nested rule m) (λ us less. nested_same rule g n m us (omega arith) (omega arith)) ts (omega arith)

pub unrolled : {A : Type 0} (rule : Phrase A → Phrase A) → Guarded rule → (ts : List Lexeme) → (recursive rule).read ts ≡ (rule (recursive rule)).read ts
unfolding nested recursive
unrolled rule g ts = g (length ts) (nested rule (length ts)) (recursive rule) (λ us less. nested_same rule g (length ts) (suc (length us)) us less (omega arith)) ts (omega arith)
