-- Symbols of a grammar: what each derives, where it fails, and how it is read.
use Rattle.std.specs.Prelude.{◌≡◌, ℕ, ◌<◌, ◌≤◌, ◌⊎◌, ◌||◌, ◌&&◌, not, bytes_eq, Bool, true, false, if◌then◌else◌, List, [], ◌∷◌, ◌++◌, length, Result, Ok, Err, Option, Some, None, refl}
use Rattle.std.proofs.Common.{inl, inr, arith, ap, ap₂, ◌∙◌, cond}
use Rattle.gql_text.specs.Kinds.{same_kind, same_kind_true}
use Rattle.gql_text.specs.Lexeme.{Lexeme}
use Rattle.gql_text.specs.declared.place.Place.{Place}
use Rattle.gql_text.specs.declared.token.Kind.{Kind}
use Rattle.gql_text.specs.declared.token.Kind.TheVariants.{EndOfText, Name}
use Rattle.gql_grammar.specs.Levels.{shift, level}
use Rattle.gql_grammar.specs.declared.error.ParseError.{ParseError}
use Rattle.gql_grammar.specs.declared.error.ParseError.TheVariants as errors
use Rattle.gql_grammar.specs.declared.error.Unexpected.{Unexpected}

-- the outcome of reading: a value and the tokens after it; or the tokens left where it failed
abbrev pub Outcome : Type 0 → Type 0
Outcome A = Result (A × List Lexeme) (List Lexeme)

-- how tokens are read: the outcome for each list of tokens
abbrev pub Reader : Type 0 → Type 0
Reader A = List Lexeme → Outcome A

-- which outcomes the grammar allows for which tokens
abbrev pub Rule : Type 0 → Type 1
Rule A = List Lexeme → Outcome A → Type 0

-- m tokens are left of n: fewer if one has to be taken, else no more
abbrev pub Leaves : Bool → ℕ → ℕ → Type 0
Leaves true m n = m < n
Leaves false m n = m ≤ n

-- a value takes at least one token if `s` is true, and never gives one back
abbrev pub Takes : {A : Type 0} → Bool → List Lexeme → Outcome A → Type 0
Takes s ts (Ok r) = Leaves s (length r.1) (length ts)
Takes s ts (Err e) = Unit {0}

-- the tokens taken change the number of open braces and brackets in this way
abbrev pub Shifts : {A : Type 0} → (ℕ → ℕ) → List Lexeme → Outcome A → Type 0
Shifts shift ts (Ok r) = (n : ℕ) → level n ts ≡ level (shift n) r.1
Shifts shift ts (Err e) = Unit {0}

-- A symbol: the outcomes that the grammar allows (`Allows`), and a reader whose outcome is the only
-- one (`read`). It shifts the level as `shift` says, and takes at least one token if `some` is
-- true.
pub record Symbol (shift : ℕ → ℕ) (some : Bool) (A : Type 0) : Type 1 where
  pub read : Reader A
  pub Allows : Rule A
  pub holds : (ts : List Lexeme) → Allows ts (read ts)
  pub only : (ts : List Lexeme) (o : Outcome A) → Allows ts o → read ts ≡ o
  pub takes : (ts : List Lexeme) → Takes some ts (read ts)
  pub shifts : (ts : List Lexeme) → Shifts shift ts (read ts)

-- a symbol of at least one token that closes each brace and bracket that it opens
abbrev pub Phrase : Type 0 → Type 1
Phrase A = Symbol (λ n. n) true A

-- a symbol that may take no token, and closes each brace and bracket that it opens
abbrev pub Part : Type 0 → Type 1
Part A = Symbol (λ n. n) false A

-- ---- no token

pub takes_none : (ts : List Lexeme) → length ts ≤ length ts
takes_none ts = omega arith

-- the symbol that takes no token and has this value
abbrev pub pure : {A : Type 0} → A → Part A
pure a = record {
  read = λ ts. Ok (a, ts);
  Allows = λ ts o. Ok (a, ts) ≡ o;
  holds = λ ts. refl;
  only = λ ts o h. h;
  takes = λ ts. takes_none ts;
  shifts = λ ts n. refl;
}

-- ---- one part after another

-- reading goes on after a value; a failure stays
abbrev pub and_then : {A B : Type 0} → Outcome A → (A → Reader B) → Outcome B
and_then (Ok r) f = f r.0 r.1
and_then (Err e) f = Err e

-- the rule of two parts: the first fails, or it derives some tokens and the second goes on after
-- them
abbrev pub Then : {A B : Type 0} → Rule A → (A → Rule B) → Rule B
Then {A = A} p q ts o = ((at : List Lexeme) × p ts (Err at) × (Err at ≡ o))
    ⊎ ((a : A) × (middle : List Lexeme) × p ts (Ok (a, middle)) × q a middle o)

pub then_holds : {A B : Type 0} (p : Rule A) (q : A → Rule B) (o : Outcome A) (f : A → Reader B)
    (ts : List Lexeme) → p ts o → ((a : A) (middle : List Lexeme) → q a middle (f a middle))
    → Then p q ts (and_then o f)
then_holds p q (Ok r) f ts h g = inr (r.0, r.1, h, g r.0 r.1)
then_holds p q (Err e) f ts h g = inl (e, h, refl)

pub then_only : {A B : Type 0} {d e : ℕ → ℕ} {s t : Bool} (p : Symbol d s A) (q : A → Symbol e t B)
    (ts : List Lexeme) (o : Outcome B) → Then p.Allows (λ a. (q a).Allows) ts o
    → and_then (p.read ts) (λ a. (q a).read) ≡ o
then_only p q ts o (inl h) = ap (λ r. and_then r (λ a. (q a).read)) (p.only ts (Err h.0) h.1) ∙ h.2
then_only p q ts o (inr h) =
    ap (λ r. and_then r (λ a. (q a).read)) (p.only ts (Ok (h.0, h.1)) h.2) ∙ (q h.0).only h.1 o h.3

leaves_more : (s t : Bool) (a b c : ℕ) → Leaves s b c → Leaves t a b → Leaves (s || t) a c
leaves_more true true a b c h k = omega arith
leaves_more true false a b c h k = omega arith
leaves_more false true a b c h k = omega arith
leaves_more false false a b c h k = omega arith

then_second : {B : Type 0} (s t : Bool) (ts middle : List Lexeme) (o : Outcome B)
    → Leaves s (length middle) (length ts) → Takes t middle o → Takes (s || t) ts o
then_second s t ts middle (Ok r) h k = leaves_more s t (length r.1) (length middle) (length ts) h k
then_second s t ts middle (Err e) h k = tt

pub then_takes : {A B : Type 0} {e : ℕ → ℕ} (s t : Bool) (o : Outcome A) (q : A → Symbol e t B)
    (ts : List Lexeme) → Takes s ts o → Takes (s || t) ts (and_then o (λ a. (q a).read))
then_takes s t (Ok r) q ts h = then_second s t ts r.1 ((q r.0).read r.1) h ((q r.0).takes r.1)
then_takes s t (Err e) q ts h = tt

shift_more : {B : Type 0} (d e : ℕ → ℕ) (ts middle : List Lexeme) (o : Outcome B)
    → ((n : ℕ) → level n ts ≡ level (d n) middle) → Shifts e middle o → Shifts (λ n. e (d n)) ts o
shift_more d e ts middle (Ok r) h k = λ n. h n ∙ k (d n)
shift_more d e ts middle (Err x) h k = tt

pub then_shifts : {A B : Type 0} {t : Bool} (d e : ℕ → ℕ) (o : Outcome A) (q : A → Symbol e t B)
    (ts : List Lexeme) → Shifts d ts o → Shifts (λ n. e (d n)) ts (and_then o (λ a. (q a).read))
then_shifts d e (Ok r) q ts h = shift_more d e ts r.1 ((q r.0).read r.1) h ((q r.0).shifts r.1)
then_shifts d e (Err x) q ts h = tt

infixl 10 ◌>>=◌
-- one symbol, and then one that depends on its value
abbrev pub ◌>>=◌ : {A B : Type 0} {d e : ℕ → ℕ} {s t : Bool} → Symbol d s A → (A → Symbol e t B)
    → Symbol (λ n. e (d n)) (s || t) B
◌>>=◌ {d = d} {e = e} {s = s} {t = t} p q = record {
  read = λ ts. and_then (p.read ts) (λ a. (q a).read);
  Allows = Then p.Allows (λ a. (q a).Allows);
  holds = λ ts. then_holds p.Allows (λ a. (q a).Allows) (p.read ts) (λ a. (q a).read) ts
      (p.holds ts) (λ a middle. (q a).holds middle);
  only = then_only p q;
  takes = λ ts. then_takes s t (p.read ts) q ts (p.takes ts);
  shifts = λ ts. then_shifts d e (p.read ts) q ts (p.shifts ts);
}

infixl 10 ◌>>◌
-- one symbol, and then another; the value is that of the second
abbrev pub ◌>>◌ : {A B : Type 0} {d e : ℕ → ℕ} {s t : Bool} → Symbol d s A → Symbol e t B
    → Symbol (λ n. e (d n)) (s || t) B
p >> q = p >>= (λ _. q)

-- ---- a failure at the next token

-- the symbol that fails at the next token, whatever it is
abbrev pub refuse : {A : Type 0} {d : ℕ → ℕ} → Symbol d true A
refuse = record {
  read = λ ts. Err ts;
  Allows = λ ts o. Err ts ≡ o;
  holds = λ ts. refl;
  only = λ ts o h. h;
  takes = λ ts. tt;
  shifts = λ ts. tt;
}

-- ---- what is next

-- the kind of the next token
abbrev pub kind_of : List Lexeme → Kind
kind_of [] = EndOfText
kind_of (t ∷ ts) = t.kind

-- the text of the next token
abbrev pub text_of : List Lexeme → List ℕ
text_of [] = []
text_of (t ∷ ts) = t.text

-- the place of the next token, if one is left
abbrev pub place_of : List Lexeme → Option Place
place_of [] = None
place_of (t ∷ ts) = Some t.place

-- whether a token of this kind is next
unfoldable pub sees : Kind → List Lexeme → Bool
sees k ts = same_kind (kind_of ts) k

-- whether a token of another kind is next, or none
unfoldable pub before : Kind → List Lexeme → Bool
before k ts = not (sees k ts)

-- whether a name that passes the test is next
unfoldable pub sees_name : (List ℕ → Bool) → List Lexeme → Bool
sees_name test ts = sees Name ts && test (text_of ts)

-- whether this word is next
abbrev pub sees_word : List ℕ → List Lexeme → Bool
sees_word word = sees_name (λ text. bytes_eq text word)

-- ---- one token

-- the next token, if it passes
abbrev pub take_if : Bool → Reader Lexeme
take_if pass [] = Err []
take_if pass (t ∷ ts) = if pass then Ok (t, ts) else Err (t ∷ ts)

-- the rule of one token that passes the test: it fails at any other, and at the end
abbrev pub IsToken : (List Lexeme → Bool) → Rule Lexeme
IsToken test [] o = Err [] ≡ o
IsToken test (t ∷ ts) (Ok r) = (test (t ∷ ts) ≡ true) × (t ≡ r.0) × (ts ≡ r.1)
IsToken test (t ∷ ts) (Err at) = (test (t ∷ ts) ≡ false) × (t ∷ ts ≡ at)

token_holds_by : (pass : Bool) (test : List Lexeme → Bool) (t : Lexeme) (ts : List Lexeme)
    → test (t ∷ ts) ≡ pass → IsToken test (t ∷ ts) (cond pass (Ok (t, ts)) (Err (t ∷ ts)))
token_holds_by true test t ts h = (h, refl, refl)
token_holds_by false test t ts h = (h, refl)

pub token_holds : (test : List Lexeme → Bool) (ts : List Lexeme)
    → IsToken test ts (take_if (test ts) ts)
token_holds test [] = refl
token_holds test (t ∷ ts) = token_holds_by (test (t ∷ ts)) test t ts refl

pub token_only : (test : List Lexeme → Bool) (ts : List Lexeme) (o : Outcome Lexeme)
    → IsToken test ts o → take_if (test ts) ts ≡ o
token_only test [] o h = h
token_only test (t ∷ ts) (Ok r) h = rw h.0 (ap₂ (λ a b. Ok (a, b)) h.1 h.2)
token_only test (t ∷ ts) (Err e) h = rw h.0 (ap Err h.1)

token_takes_by : (pass : Bool) (t : Lexeme) (ts : List Lexeme)
    → Takes true (t ∷ ts) (cond pass (Ok (t, ts)) (Err (t ∷ ts)))
token_takes_by true t ts = omega arith
token_takes_by false t ts = tt

pub token_takes : (pass : Bool) (ts : List Lexeme) → Takes true ts (take_if pass ts)
token_takes pass [] = tt
token_takes pass (t ∷ ts) = token_takes_by pass t ts

token_shifts_by : (pass : Bool) (d : ℕ → ℕ) (t : Lexeme) (ts : List Lexeme)
    → (pass ≡ true → (n : ℕ) → shift t.kind n ≡ d n)
    → Shifts d (t ∷ ts) (cond pass (Ok (t, ts)) (Err (t ∷ ts)))
token_shifts_by true d t ts h = λ n. ap (λ m. level m ts) (h refl n)
token_shifts_by false d t ts h = tt

pub token_shifts : (test : List Lexeme → Bool) (d : ℕ → ℕ)
    → ((t : Lexeme) (ts : List Lexeme) → test (t ∷ ts) ≡ true → (n : ℕ) → shift t.kind n ≡ d n)
    → (ts : List Lexeme) → Shifts d ts (take_if (test ts) ts)
token_shifts test d h [] = tt
token_shifts test d h (t ∷ ts) = token_shifts_by (test (t ∷ ts)) d t ts (h t ts)

pub kind_shifts : (k : Kind) (t : Lexeme) (ts : List Lexeme) → sees k (t ∷ ts) ≡ true → (n : ℕ)
    → shift t.kind n ≡ shift k n
unfolding sees
kind_shifts k t ts h n = ap (λ x. shift x n) (same_kind_true t.kind k h)

first_of_both : (a b : Bool) → (a && b) ≡ true → a ≡ true
first_of_both true b h = refl
first_of_both false b h = h

pub name_shifts : (test : List ℕ → Bool) (t : Lexeme) (ts : List Lexeme)
    → sees_name test (t ∷ ts) ≡ true → (n : ℕ) → shift t.kind n ≡ n
unfolding sees_name
name_shifts test t ts h n = kind_shifts Name t ts (first_of_both _ _ h) n

-- a token of this kind
unfoldable pub token : (k : Kind) → Symbol (shift k) true Lexeme
token k = record {
  read = λ ts. take_if (sees k ts) ts;
  Allows = IsToken (sees k);
  holds = token_holds (sees k);
  only = token_only (sees k);
  takes = λ ts. token_takes (sees k ts) ts;
  shifts = token_shifts (sees k) (shift k) (kind_shifts k);
}

-- a name whose text passes the test
unfoldable pub name_where : (List ℕ → Bool) → Phrase Lexeme
name_where test = record {
  read = λ ts. take_if (sees_name test ts) ts;
  Allows = IsToken (sees_name test);
  holds = token_holds (sees_name test);
  only = token_only (sees_name test);
  takes = λ ts. token_takes (sees_name test ts) ts;
  shifts = token_shifts (sees_name test) (λ n. n) (name_shifts test);
}

-- the keyword of this spelling
abbrev pub word : List ℕ → Phrase Lexeme
word spelling = name_where (λ text. bytes_eq text spelling)

-- ---- a choice by the kind of the next token

-- the symbol for the kind of the next token
abbrev pub by_kind : {A : Type 0} {d : ℕ → ℕ} {s : Bool} → (Kind → Symbol d s A) → Symbol d s A
by_kind f = record {
  read = λ ts. (f (kind_of ts)).read ts;
  Allows = λ ts o. (f (kind_of ts)).Allows ts o;
  holds = λ ts. (f (kind_of ts)).holds ts;
  only = λ ts o h. (f (kind_of ts)).only ts o h;
  takes = λ ts. (f (kind_of ts)).takes ts;
  shifts = λ ts. (f (kind_of ts)).shifts ts;
}

-- ---- a choice by a test of the next tokens

-- the first symbol if the test is true, else the second
abbrev pub choose : {A : Type 0} {d : ℕ → ℕ} {s : Bool} → Bool → Symbol d s A → Symbol d s A
    → Symbol d s A
choose true p q = p
choose false p q = q

-- the first symbol if the test holds for the next tokens, else the second
abbrev pub by_test : {A : Type 0} {d : ℕ → ℕ} {s : Bool} → (List Lexeme → Bool) → Symbol d s A
    → Symbol d s A → Symbol d s A
by_test test p q = record {
  read = λ ts. (choose (test ts) p q).read ts;
  Allows = λ ts o. (choose (test ts) p q).Allows ts o;
  holds = λ ts. (choose (test ts) p q).holds ts;
  only = λ ts o h. (choose (test ts) p q).only ts o h;
  takes = λ ts. (choose (test ts) p q).takes ts;
  shifts = λ ts. (choose (test ts) p q).shifts ts;
}

pub takes_less : {A : Type 0} (s : Bool) (ts : List Lexeme) (o : Outcome A) → Takes s ts o
    → Takes false ts o
takes_less true ts (Ok r) h = omega arith
takes_less false ts (Ok r) h = h
takes_less s ts (Err e) h = tt

-- the same symbol, as one that may take no token
abbrev pub relaxed : {A : Type 0} {d : ℕ → ℕ} {s : Bool} → Symbol d s A → Symbol d false A
relaxed {s = s} p = record {
  read = p.read;
  Allows = p.Allows;
  holds = p.holds;
  only = p.only;
  takes = λ ts. takes_less s ts (p.read ts) (p.takes ts);
  shifts = p.shifts;
}

-- a part that may be absent: it is read if the test for its first token holds
abbrev pub optional : {A : Type 0} → (List Lexeme → Bool) → A → Phrase A → Part A
optional begins absent p = by_test begins (relaxed p) (pure absent)

-- ---- the end of the tokens

-- succeeds if no token is left, and else fails at the next one
abbrev pub end_read_at : Reader (Unit {0})
end_read_at [] = Ok (tt, [])
end_read_at (t ∷ ts) = Err (t ∷ ts)

pub end_takes : (ts : List Lexeme) → Takes false ts (end_read_at ts)
end_takes [] = omega arith
end_takes (t ∷ ts) = tt

pub end_shifts : (ts : List Lexeme) → Shifts (λ n. n) ts (end_read_at ts)
end_shifts [] = λ n. refl
end_shifts (t ∷ ts) = tt

-- the end of the tokens
unfoldable pub end : Part (Unit {0})
end = record {
  read = end_read_at;
  Allows = λ ts o. end_read_at ts ≡ o;
  holds = λ ts. refl;
  only = λ ts o h. h;
  takes = end_takes;
  shifts = end_shifts;
}

-- the symbol, up to the end of the tokens
abbrev pub whole : {A : Type 0} {d : ℕ → ℕ} {s : Bool} → Symbol d s A → Symbol d (s || false) A
whole p = do
  a ← p
  end
  pure a

-- ---- derivations and faults

-- the symbol derives the tokens before the rest, as the value
abbrev pub Derives : {A : Type 0} {d : ℕ → ℕ} {s : Bool} → Symbol d s A → List Lexeme → A
    → List Lexeme → Type 0
Derives p ts a rest = p.Allows ts (Ok (a, rest))

-- the symbol fails at the first of the tokens left; at the end if none is left
abbrev pub Fails : {A : Type 0} {d : ℕ → ℕ} {s : Bool} → Symbol d s A → List Lexeme → List Lexeme
    → Type 0
Fails p ts at = p.Allows ts (Err at)

-- ---- what a parsing function ensures of its result and of the tokens that it leaves

-- the first list is the end of the second
pub record IsRest (rest ts : List Lexeme) : Type 0 where
  pub front : List Lexeme
  pub parts : front ++ rest ≡ ts

-- a function that allocates nothing returns the outcome
abbrev pub Gives : {X A : Type 0} → (X → A) → Outcome A → Result X Unexpected → List Lexeme → Type 0
Gives view outcome (Ok x) new = outcome ≡ Ok (view x, new)
Gives view outcome (Err e) new = outcome ≡ Err new

-- a function that allocates returns the outcome, unless an allocation fails
abbrev pub Reads : {A : Type 0} → Outcome A → Result A ParseError → List Lexeme → Type 0
Reads outcome (Ok a) new = outcome ≡ Ok (a, new)
Reads outcome (Err e) new = e ≡ errors.Unexpected → outcome ≡ Err new

-- What a parsing function returns: the value that the symbol derives, and the tokens after it are
-- left; `Unexpected` if the symbol fails, at the first of the tokens left; or `Memory` if an
-- allocation failed.
abbrev pub Answers : {A : Type 0} {d : ℕ → ℕ} {s : Bool} → Symbol d s A → List Lexeme
    → Result A ParseError → List Lexeme → Type 0
Answers p old (Ok a) new = Derives p old a new
Answers p old (Err errors.Unexpected) new = Fails p old new
Answers p old (Err errors.Memory) new = IsRest new old
