-- A loop that reads items for as long as a test holds.
use Rattle.std.proofs.Common.{◌≡◌, IsErrAnd, ℕ, zero, suc, ◌<◌, ◌≤◌, List, [], ◌∷◌, ◌++◌, length, Result, Ok, Err, Bool, true, false, refl, sym, ap, ◌∙◌, subst, arith}
use Rattle.gql_text.specs.Lexeme.{Lexeme}
use Rattle.gql_grammar.specs.declared.error.ParseError.{ParseError}
use Rattle.gql_grammar.specs.declared.error.ParseError.TheVariants.{Unexpected}
use Rattle.gql_grammar.specs.Symbol.{Symbol, Phrase, IsRest, Outcome, Takes, Reads}
use Rattle.gql_grammar.specs.Repetition.{first_then, some_while, while_from}
use Rattle.gql_grammar.proofs.Rests.{whole_rest, rest_then}

-- what was found so far, and the tokens that are left, stand for all of the loop
pub record Going {A : Type 0} (test : List Lexeme → Bool) (item : Phrase A) (start : List A) (all : List Lexeme) (found : List A) (ts : List Lexeme) : Type 0 where
  pub turns : ℕ
  pub enough : length ts < turns
  pub shorter : length ts ≤ length all
  pub rest : IsRest ts all
  pub reads : while_from test item.read (suc (length all)) start all ≡ while_from test item.read turns found ts

pub going_init : {A : Type 0} (test : List Lexeme → Bool) (item : Phrase A) (start : List A) (all : List Lexeme) → Going test item start all start all
going_init test item start all = record { turns = suc (length all); enough = omega arith; shorter = omega arith; rest = whole_rest all; reads = refl }

on_turn : {A : Type 0} (test : List Lexeme → Bool) (item : Phrase A) (n : ℕ) (found : List A) (ts middle : List Lexeme) (x : A) → length middle < length ts → length ts < n → test ts ≡ true
    → item.read ts ≡ Ok (x, middle) → (m : ℕ) × (length middle < m) × (while_from test item.read n found ts ≡ while_from test item.read m (found ++ x ∷ []) middle)
unfolding while_from
on_turn test item zero found ts middle x less enough more is = absurd (omega arith)
on_turn test item (suc n) found ts middle x less enough more is = (n, omega arith, rw (more, is))

pub taken : {A : Type 0} {d : ℕ → ℕ} (item : Symbol d true A) (ts middle : List Lexeme) (x : A) → item.read ts ≡ Ok (x, middle) → length middle < length ts
taken item ts middle x is = let P : Outcome _ → Type 0 = λ o. Takes true ts o in subst P is (item.takes ts)

pub going_on : {A : Type 0} {test : List Lexeme → Bool} {item : Phrase A} {start : List A} {all : List Lexeme} {found : List A} {ts : List Lexeme} (middle : List Lexeme) (x : A) → Going test item start all found ts
    → test ts ≡ true → item.read ts ≡ Ok (x, middle) → IsRest middle ts → (further : List A) → further ≡ found ++ x ∷ [] → Going test item start all further middle
going_on {test = test} {item = item} {found = found} {ts = ts} middle x g more is left further add =
    let less = taken item ts middle x is in
    let next = on_turn test item g.turns found ts middle x less g.enough more is in
    record { turns = next.0; enough = next.1; shorter = omega (arith, g.shorter); rest = rest_then left g.rest; reads = g.reads ∙ next.2 ∙ ap (λ f. while_from test item.read next.0 f middle) (sym add) }

on_fault : {A : Type 0} (test : List Lexeme → Bool) (item : Phrase A) (n : ℕ) (found : List A) (ts e : List Lexeme) → length ts < n → test ts ≡ true
    → item.read ts ≡ Err e → while_from test item.read n found ts ≡ Err e
unfolding while_from
on_fault test item zero found ts e enough more is = absurd (omega arith)
on_fault test item (suc n) found ts e enough more is = rw (more, is)

pub going_fails : {A : Type 0} {test : List Lexeme → Bool} {item : Phrase A} {start : List A} {all : List Lexeme} {found : List A} {ts : List Lexeme} (e : List Lexeme) → Going test item start all found ts
    → test ts ≡ true → item.read ts ≡ Err e → while_from test item.read (suc (length all)) start all ≡ Err e
going_fails {test = test} {item = item} {found = found} {ts = ts} e g more is = g.reads ∙ on_fault test item g.turns found ts e g.enough more is

on_end : {A : Type 0} (test : List Lexeme → Bool) (item : Phrase A) (n : ℕ) (found : List A) (ts : List Lexeme) → length ts < n → test ts ≡ false
    → while_from test item.read n found ts ≡ Ok (found, ts)
unfolding while_from
on_end test item zero found ts enough over = absurd (omega arith)
on_end test item (suc n) found ts enough over = rw over

-- where the test fails the loop is over
pub going_ends : {A : Type 0} {test : List Lexeme → Bool} {item : Phrase A} {start : List A} {all : List Lexeme} {found : List A} {ts : List Lexeme} → Going test item start all found ts
    → test ts ≡ false → while_from test item.read (suc (length all)) start all ≡ Ok (found, ts)
going_ends {test = test} {item = item} {found = found} {ts = ts} g over = g.reads ∙ on_end test item g.turns found ts g.enough over

-- a fault of an item is that of the loop
pub fault_reads : {A : Type 0} {test : List Lexeme → Bool} {item : Phrase A} {start : List A} {all : List Lexeme} {found : List A} {ts : List Lexeme} → Going test item start all found ts
    → test ts ≡ true → (e : ParseError) (new : List Lexeme) → (e ≡ Unexpected → item.read ts ≡ Err new) → (r : Result (List A) ParseError) → IsErrAnd r (λ d. d ≡ e)
    → Reads (while_from test item.read (suc (length all)) start all) r new
fault_reads g more e new is (Ok x) h = absurd h
fault_reads g more e new is (Err d) h = λ fault. going_fails new g more (is (sym h ∙ fault))

-- how a loop behind a first item begins
pub first_began : {A : Type 0} (test : List Lexeme → Bool) (first item : Phrase A) (whole middle : List Lexeme) (x : A) (start : List A) → first.read whole ≡ Ok (x, middle) → start ≡ [] ++ x ∷ []
    → (first_then test first item).read whole ≡ while_from test item.read (suc (length middle)) start middle
first_began test first item whole middle x start is e = rw (is, e) refl

pub some_began : {A : Type 0} (test : List Lexeme → Bool) (item : Phrase A) (whole middle : List Lexeme) (x : A) (start : List A) → item.read whole ≡ Ok (x, middle) → start ≡ [] ++ x ∷ []
    → (some_while test item).read whole ≡ while_from test item.read (suc (length middle)) start middle
some_began test item whole middle x start is e = rw (is, e) refl

pub some_fault : {A : Type 0} {test : List Lexeme → Bool} {item : Phrase A} {start : List A} {all : List Lexeme} {found : List A} {ts : List Lexeme} (whole : Outcome (List A)) → whole ≡ while_from test item.read (suc (length all)) start all
    → Going test item start all found ts → test ts ≡ true → (e : ParseError) (new : List Lexeme) → (e ≡ Unexpected → item.read ts ≡ Err new) → (r : Result (List A) ParseError) → IsErrAnd r (λ d. d ≡ e)
    → Reads whole r new
some_fault whole began g more e new is r h = let P : Outcome _ → Type 0 = λ o. Reads o r new in subst P (sym began) (fault_reads g more e new is r h)
