-- Values that are read one after another and put on a stack: those of one list lie on top.
use Rattle.std.proofs.Common.{◌≡◌, ℕ, ◌<◌, ◌≤◌, List, [], ◌∷◌, ◌++◌, length, take, drop, Ok, Err, Bool, true, false, refl, sym, ap, ◌∙◌, suc, append_assoc, length-append, arith}
use Rattle.gql_text.specs.Lexeme.{Lexeme}
use Rattle.gql_grammar.specs.Symbol.{Phrase, IsRest, Outcome, and_then}
use Rattle.gql_grammar.specs.Repetition.{some_while, while_from}
use Rattle.gql_grammar.proofs.Loops.{Going, going_init, going_on, going_ends, some_began, taken}
use Rattle.gql_grammar.proofs.Rests.{rest_then}

-- the value of the outcome is put on the stack
abbrev pub Added : {A : Type 0} → List A → List A → Outcome A → List Lexeme → Type 0
Added old new o rest = and_then o (λ x us. Ok (old ++ x ∷ [], us)) ≡ Ok (new, rest)

pub added : {A : Type 0} (old new : List A) (o : Outcome A) (rest : List Lexeme) → Added old new o rest → (x : A) × (o ≡ Ok (x, rest)) × (new ≡ old ++ x ∷ [])
added {A = A} old new (Ok r) rest h =
    let same : ◌≡◌ {A = List A × List Lexeme} (old ++ r.0 ∷ [], r.1) (new, rest) = cc in
    (r.0, ap (λ us. Ok (r.0, us)) (ap (λ (q : List A × List Lexeme). q.1) same), sym (ap (λ (q : List A × List Lexeme). q.0) same))
added old new (Err e) rest h = cc

-- the stack has what lay below, and on it what was found so far
pub record Stacked {A : Type 0} (test : List Lexeme → Bool) (item : Phrase A) (below : List A) (whole : List Lexeme) (stack : List A) (ts : List Lexeme) : Type 0 where
  pub first : A
  pub middle : List Lexeme
  pub found : List A
  pub is : item.read whole ≡ Ok (first, middle)
  pub going : Going test item (first ∷ []) middle found ts
  pub parts : stack ≡ below ++ found
  pub shorter : length ts < length whole
  pub rest : IsRest ts whole

pub stacked_init : {A : Type 0} (test : List Lexeme → Bool) (item : Phrase A) (below : List A) (whole : List Lexeme) (stack : List A) (ts : List Lexeme) → Added below stack (item.read whole) ts → IsRest ts whole
    → Stacked test item below whole stack ts
stacked_init test item below whole stack ts h r =
    let a = added below stack (item.read whole) ts h in
    record { first = a.0; middle = ts; found = a.0 ∷ []; is = a.1; going = going_init test item (a.0 ∷ []) ts; parts = a.2; shorter = taken item whole ts a.0 a.1; rest = r }

pub stacked_on : {A : Type 0} {test : List Lexeme → Bool} {item : Phrase A} {below : List A} {whole : List Lexeme} {stack : List A} {ts : List Lexeme} → Stacked test item below whole stack ts → test ts ≡ true
    → (new : List A) (rest : List Lexeme) → Added stack new (item.read ts) rest → IsRest rest ts → Stacked test item below whole new rest
stacked_on {item = item} {below = below} {stack = stack} {ts = ts} g more new rest h r =
    let a = added stack new (item.read ts) rest h in
    let less = taken item ts rest a.0 a.1 in
    record {
      first = g.first;
      middle = g.middle;
      found = g.found ++ a.0 ∷ [];
      is = g.is;
      going = going_on rest a.0 g.going more a.1 r (g.found ++ a.0 ∷ []) refl;
      parts = a.2 ∙ ap (λ xs. xs ++ a.0 ∷ []) g.parts ∙ append_assoc below g.found (a.0 ∷ []);
      shorter = omega (arith, less, g.shorter);
      rest = rest_then r g.rest;
    }

pub stacked_began : {A : Type 0} {test : List Lexeme → Bool} {item : Phrase A} {below : List A} {whole : List Lexeme} {stack : List A} {ts : List Lexeme} (g : Stacked test item below whole stack ts)
    → (some_while test item).read whole ≡ while_from test item.read (suc (length g.middle)) (g.first ∷ []) g.middle
stacked_began {test = test} {item = item} {whole = whole} g = some_began test item whole g.middle g.first (g.first ∷ []) g.is refl

drop_below : {A : Type 0} (below found : List A) → drop (length below) (below ++ found) ≡ found
drop_below [] found = refl
drop_below (x ∷ below) found = drop_below below found

take_below : {A : Type 0} (below found : List A) → take (length below) (below ++ found) ≡ below
take_below [] found = refl
take_below (x ∷ below) found = ap (λ xs. x ∷ xs) (take_below below found)

-- what is taken off the stack is what was found
pub stacked_ends : {A : Type 0} {test : List Lexeme → Bool} {item : Phrase A} {below : List A} {whole : List Lexeme} {stack : List A} {ts : List Lexeme} → Stacked test item below whole stack ts → test ts ≡ false
    → (at : ℕ) (top : List A) → at ≡ length below → top ≡ drop at stack → (some_while test item).read whole ≡ Ok (top, ts)
stacked_ends {below = below} {stack = stack} {ts = ts} g closed at top size is =
    stacked_began g ∙ going_ends g.going closed
    ∙ ap (λ xs. Ok (xs, ts)) (sym (is ∙ ap (λ n. drop n stack) size ∙ ap (λ (xs : List _). drop (length below) xs) g.parts ∙ drop_below below g.found))

-- and what stays is what lay below
pub stacked_left : {A : Type 0} {test : List Lexeme → Bool} {item : Phrase A} {below : List A} {whole : List Lexeme} {stack : List A} {ts : List Lexeme} → Stacked test item below whole stack ts
    → (at : ℕ) (left : List A) → at ≡ length below → left ≡ take at stack → left ≡ below
stacked_left {below = below} {stack = stack} g at left size is = is ∙ ap (λ n. take n stack) size ∙ ap (λ (xs : List _). take (length below) xs) g.parts ∙ take_below below g.found

pub stacked_size : {A : Type 0} {test : List Lexeme → Bool} {item : Phrase A} {below : List A} {whole : List Lexeme} {stack : List A} {ts : List Lexeme} → Stacked test item below whole stack ts → length below ≤ length stack
stacked_size {below = below} g = omega (arith, ap length g.parts, length-append below g.found)
