-- The number that a typed getter of clap reads from an option's text.
use Rattle.std.proofs.Common.{◌≡◌, ◌∙◌, ◌<◌, ◌^◌, ℕ, Option, Some, None, Ok, Err, inl, inr, refl, sym, ap, subst, codes}
use Rattle.std.specs.Prelude.{Result}
use Rattle.std.specs.Str.Parse.{ExplainsUnsignedError, HasUnsignedDigitsIfOk, ParsesUnsigned}
use Rattle.std.specs.declared.num.ParseIntError.{ParseIntError}
use Rattle.clap.specs.Walk.{Text, one_of, rows_of}
use Rattle.clap.specs.Matches.{ReadsOne, TriesOne, one_text}
use Rattle.clap.specs.declared.parser.matches.Found.{Found}
use Rattle.clap.proofs.WalkLemmas.{one_text-rows}
use Rattle.gql_command.specs.Grammar.{GivesAtOnce, GivesNumber}

-- what `from_str` of an unsigned type of k bits reads
abbrev pub Reads : ℕ → Text → Result ℕ ParseIntError → Type 0
Reads k t r = ParsesUnsigned k 10 t r × ExplainsUnsignedError 10 t r × HasUnsignedDigitsIfOk t r

module _ (k : ℕ) (f : Found) (name : Text) (r : Option ℕ) (value : (t : Text) → one_text f name ≡ Some t → ReadsOne (Reads k) t r) where
  -- a number that was read is the one that the option gives, and fits the type
  pub gives : (one_text f name ≡ None → r ≡ None) → (n : ℕ) → r ≡ Some n → GivesNumber name (rows_of f) n × (n < 2 ^ k)
  gives none n is = go (one_text f name) refl
    where
      at : (t : Text) (o : Option ℕ) → o ≡ Some n → one_text f name ≡ Some t → ReadsOne (Reads k) t o → GivesNumber name (rows_of f) n × (n < 2 ^ k)
      at t None e text read = cc
      at t (Some v) e text read =
          let same : v ≡ n = cc in
          let parsed = read.0 in
          ((t, sym (one_text-rows f name) ∙ text, parsed.0.0, sym same ∙ parsed.1), subst (λ (x : ℕ). x < 2 ^ k) (sym parsed.1 ∙ same) parsed.0.1)

      go : (o : Option Text) → one_text f name ≡ o → GivesNumber name (rows_of f) n × (n < 2 ^ k)
      go None e = (let bad : None ≡ Some n = sym (none e) ∙ is in cc)
      go (Some t) e = at t r is e (value t e)

  -- and a number that the option gives, and that fits the type, is read
  pub given : (n : ℕ) → n < 2 ^ k → GivesNumber name (rows_of f) n → r ≡ Some n
  given n fits number =
      let text : one_text f name ≡ Some number.0 = one_text-rows f name ∙ number.1 in
      go r (value number.0 text)
    where
      go : (o : Option ℕ) → ReadsOne (Reads k) number.0 o → o ≡ Some n
      go (Some v) read = (let parsed = read.0 in ap (λ (x : ℕ). Some x) (parsed.1 ∙ sym number.3))
      go None read = absurd (read.1.0 (number.2, subst (λ (x : ℕ). x < 2 ^ k) number.3 fits))

-- the same of a getter that reports why a text is no number
module _ (k : ℕ) (f : Found) (name : Text) (r : Result (Option ℕ) ParseIntError) (none : one_text f name ≡ None → r ≡ Ok None)
    (value : (t : Text) → one_text f name ≡ Some t → TriesOne (Reads k) t r) where
  -- a number that was read is the one that the option gives
  pub tried_some : (n : ℕ) → r ≡ Ok (Some n) → GivesNumber name (rows_of f) n
  tried_some n is = go (one_text f name) refl
    where
      at : (t : Text) (o : Result (Option ℕ) ParseIntError) → o ≡ Ok (Some n) → one_text f name ≡ Some t → TriesOne (Reads k) t o → GivesNumber name (rows_of f) n
      at t (Err e) same text read = cc
      at t (Ok None) same text read = absurd read
      at t (Ok (Some v)) same text read =
          let number : v ≡ n = cc in
          let parsed = read.0 in
          (t, sym (one_text-rows f name) ∙ text, parsed.0.0, sym number ∙ parsed.1)

      go : (o : Option Text) → one_text f name ≡ o → GivesNumber name (rows_of f) n
      go None e = (let bad : Ok None ≡ Ok (Some n) = sym (none e) ∙ is in cc)
      go (Some t) e = at t r is e (value t e)

  -- where nothing was read, the option is left out
  pub tried_none : r ≡ Ok None → one_of name (rows_of f) ≡ None
  tried_none is = sym (one_text-rows f name) ∙ go (one_text f name) refl
    where
      at : (t : Text) (o : Result (Option ℕ) ParseIntError) → o ≡ Ok None → TriesOne (Reads k) t o → one_text f name ≡ None
      at t (Err e) same read = cc
      at t (Ok None) same read = absurd read
      at t (Ok (Some v)) same read = cc

      go : (o : Option Text) → one_text f name ≡ o → one_text f name ≡ None
      go None e = e
      go (Some t) e = at t r is (value t e)

  -- an option that is left out
  pub tries_none : one_of name (rows_of f) ≡ None → r ≡ Ok None
  tries_none out = none (one_text-rows f name ∙ out)

  -- a number that the option gives, and that fits the type, is read
  pub tries_some : (n : ℕ) → n < 2 ^ k → GivesNumber name (rows_of f) n → r ≡ Ok (Some n)
  tries_some n fits number =
      let text : one_text f name ≡ Some number.0 = one_text-rows f name ∙ number.1 in
      go r (value number.0 text)
    where
      go : (o : Result (Option ℕ) ParseIntError) → TriesOne (Reads k) number.0 o → o ≡ Ok (Some n)
      go (Ok (Some v)) read = (let parsed = read.0 in ap (λ (x : ℕ). Ok (Some x)) (parsed.1 ∙ sym number.3))
      go (Ok None) read = absurd read
      go (Err e) read = absurd (read.0 (number.2, subst (λ (x : ℕ). x < 2 ^ k) number.3 fits))

-- ---- the number of connections at one time

-- what `--at-once` comes to: 16 if it is left out, and nothing if its text is no number
abbrev pub at_once_in : Result (Option ℕ) ParseIntError → Option ℕ
at_once_in (Ok (Some n)) = Some n
at_once_in (Ok None) = Some 16
at_once_in (Err e) = None

pub at_once_is : (k : ℕ) (f : Found) (r : Result (Option ℕ) ParseIntError) → (one_text f (codes "at-once") ≡ None → r ≡ Ok None)
    → ((t : Text) → one_text f (codes "at-once") ≡ Some t → TriesOne (Reads k) t r)
    → (n : ℕ) → n < 2 ^ k → GivesAtOnce (rows_of f) n → at_once_in r ≡ Some n
at_once_is k f r none value n fits (inl out) =
    ap at_once_in (tries_none k f (codes "at-once") r none value out.0) ∙ ap (λ (x : ℕ). Some x) (sym out.1)
at_once_is k f r none value n fits (inr number) =
    ap at_once_in (tries_some k f (codes "at-once") r none value n fits number)
