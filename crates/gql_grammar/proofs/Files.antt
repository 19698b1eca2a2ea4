-- Whole texts: one answer for each.
use Rattle.std.proofs.Common.{◌≡◌, ◌≢◌, ◌≤◌, ◌⊎◌, inl, inr, ℕ, List, [], ◌∷◌, Result, Ok, Err, Bool, true, false, IfOk, sym, refl, ◌∙◌, ap, subst, arith}
use borrow.Author.Tests.{leb-true, leb-false}
use lib.Dec.{leb}
use Rattle.gql_text.specs.Lexeme.{Lexeme}
use Rattle.gql_text.specs.declared.place.Place.{Place}
use Rattle.gql_grammar.specs.Symbol.{Symbol, Outcome, Derives, Shifts, and_then, end, pure, whole, ◌>>=◌}
use Rattle.gql_grammar.specs.Levels.{level, most_levels, looked_at, depth}
use Rattle.gql_grammar.specs.Files.{Accepts, Refuses, Parses, OrMemory, fault_by, placed}
use Rattle.gql_grammar.specs.declared.error.ParseError.{ParseError}
use Rattle.gql_grammar.specs.declared.error.ParseError.TheVariants as e
use Rattle.gql_grammar.specs.declared.fault.SyntaxRefusal.{SyntaxRefusal}
use Rattle.gql_grammar.specs.declared.fault.SyntaxFault.{SyntaxFault}
use Rattle.gql_grammar.specs.declared.fault.SyntaxFault.TheVariants.{At, Memory}
use Rattle.gql_grammar.proofs.Levels.{all, over}
use Rattle.gql_grammar.proofs.Outcomes.{values_same, apart, places_same, one_value, one_place}

-- ---- reading all of the tokens

ended : {A : Type 0} (b a : A) (us rest : List Lexeme) → (end >>= (λ _. pure b)).read us ≡ Ok (a, rest) → rest ≡ []
unfolding end
ended {A = A} b a [] rest h = let same : ◌≡◌ {A = A × List Lexeme} (b, []) (a, rest) = cc in sym (ap (λ p. p.1) same)
ended b a (t ∷ us) rest h = cc

whole_by : {A : Type 0} (a : A) (o : Outcome A) (rest : List Lexeme) → and_then o (λ b. (end >>= (λ _. pure b)).read) ≡ Ok (a, rest) → rest ≡ []
whole_by a (Ok r) rest h = ended r.0 a r.1 rest h
whole_by a (Err k) rest h = cc

pub whole_rest : {A : Type 0} {d : ℕ → ℕ} {s : Bool} (p : Symbol d s A) (ts : List Lexeme) (a : A) (rest : List Lexeme) → (whole p).read ts ≡ Ok (a, rest) → rest ≡ []
whole_rest p ts a rest h = whole_by a (p.read ts) rest h

-- ---- levels

-- a symbol that closes what it opens derives no tokens behind which 100 levels are open
balanced : {A : Type 0} (ts : List Lexeme) (a : A) (o : Outcome A) → Shifts (λ n. n) ts o → o ≡ Ok (a, []) → level 0 ts ≡ 0
balanced ts a o h is = let P : Outcome _ → Type 0 = λ q. Shifts (λ n. n) ts q in subst P is h 0

shallow_by : (pass : Bool) (ts : List Lexeme) → leb (depth ts) most_levels ≡ pass → level 0 (looked_at ts) ≡ 0 → depth ts ≤ most_levels
shallow_by true ts h none = leb-true (depth ts) most_levels h
shallow_by false ts h none = let many = over 0 ts (leb-false (depth ts) most_levels h) (omega arith) in absurd (omega arith)

shallow : (ts : List Lexeme) → level 0 (looked_at ts) ≡ 0 → depth ts ≤ most_levels
shallow ts none = shallow_by (leb (depth ts) most_levels) ts refl none

memory_apart : (number : SyntaxRefusal) (place : Place) → At number place ≡ Memory → ⊥
memory_apart number place h = cc

module _ {A : Type 0} {s : Bool} (p : Symbol (λ n. n) s A) (end_place : Place) (ts : List Lexeme) where
  read_accepts : (a : A) → p.read (looked_at ts) ≡ Ok (a, []) → Accepts p ts a
  read_accepts a is =
      let least = shallow ts (balanced (looked_at ts) a (p.read (looked_at ts)) (p.shifts (looked_at ts)) is) in
      let every : looked_at ts ≡ ts = all 0 ts least in
      (subst (λ us. Derives p us a []) every (subst (p.Allows (looked_at ts)) is (p.holds (looked_at ts))), least)

  accepts_read : (a : A) → Accepts p ts a → p.read (looked_at ts) ≡ Ok (a, [])
  accepts_read a h =
      let every : looked_at ts ≡ ts = all 0 ts h.1 in
      p.only (looked_at ts) (Ok (a, [])) (subst (λ us. Derives p us a []) (sym every) h.0)

  -- what is parsed is accepted
  pub parsed_accepted : (r : Result A SyntaxFault) → Parses p end_place ts r → IfOk r (λ a. Accepts p ts a)
  parsed_accepted (Ok a) h = read_accepts a h
  parsed_accepted (Err x) h = tt

  -- what is accepted is parsed
  pub accepted_parsed : (r : Result A SyntaxFault) → Parses p end_place ts r → (a : A) → Accepts p ts a → OrMemory r (Ok a)
  accepted_parsed (Ok b) h a k = inl (ap Ok (values_same b a (sym h ∙ accepts_read a k)))
  accepted_parsed (Err Memory) h a k = inr refl
  accepted_parsed (Err (At number place)) h a k = let told = h (memory_apart number place) in absurd (apart a told.0 (sym (accepts_read a k) ∙ told.1))

  -- a fault is where the tokens are refused
  pub parsed_refused : (r : Result A SyntaxFault) → Parses p end_place ts r → (number : SyntaxRefusal) (place : Place) → r ≡ Err (At number place) → Refuses p end_place ts (At number place)
  parsed_refused (Ok b) h number place is = cc
  parsed_refused (Err x) h number place is =
      let same : x ≡ At number place = cc in
      let told = h (λ m. memory_apart number place (sym same ∙ m)) in
      (told.0, subst (p.Allows (looked_at ts)) told.1 (p.holds (looked_at ts)), told.2 ∙ same)

  -- and what is refused gives that fault
  pub refused_parsed : (r : Result A SyntaxFault) → Parses p end_place ts r → (fault : SyntaxFault) → Refuses p end_place ts fault → OrMemory r (Err fault)
  refused_parsed (Ok b) h fault k = absurd (apart b k.0 (sym h ∙ p.only (looked_at ts) (Err k.0) k.1))
  refused_parsed (Err Memory) h fault k = inr refl
  refused_parsed (Err (At number place)) h fault k =
      let told = h (memory_apart number place) in
      let same : told.0 ≡ k.0 = places_same told.0 k.0 (sym told.1 ∙ p.only (looked_at ts) (Err k.0) k.1) in
      inl (ap Err (sym told.2 ∙ ap (λ j. fault_by end_place ts j) same ∙ k.2))

  -- ---- one answer for each text

  pub one_tree : (a b : A) → Accepts p ts a → Accepts p ts b → a ≡ b
  one_tree a b h k = one_value p ts a b h.0 k.0

  pub one_fault : (f g : SyntaxFault) → Refuses p end_place ts f → Refuses p end_place ts g → f ≡ g
  one_fault f g h k = sym h.2 ∙ ap (λ j. fault_by end_place ts j) (one_place p (looked_at ts) h.0 k.0 h.1 k.1) ∙ k.2

  pub not_both : (a : A) (f : SyntaxFault) → Accepts p ts a → Refuses p end_place ts f → ⊥
  not_both a f h k = apart a k.0 (sym (accepts_read a h) ∙ p.only (looked_at ts) (Err k.0) k.1)

  answered : (o : Outcome A) → p.read (looked_at ts) ≡ o → ((a : A) (rest : List Lexeme) → o ≡ Ok (a, rest) → rest ≡ []) → ((a : A) × Accepts p ts a) ⊎ ((f : SyntaxFault) × Refuses p end_place ts f)
  answered (Ok r) is over = inl (r.0, read_accepts r.0 (is ∙ ap (λ rest. Ok (r.0, rest)) (over r.0 r.1 refl)))
  answered (Err k) is over = inr (fault_by end_place ts k, (k, subst (p.Allows (looked_at ts)) is (p.holds (looked_at ts)), refl))

  -- a symbol that reads all of the tokens accepts or refuses each text
  pub some_answer : ((us : List Lexeme) (a : A) (rest : List Lexeme) → p.read us ≡ Ok (a, rest) → rest ≡ []) → ((a : A) × Accepts p ts a) ⊎ ((f : SyntaxFault) × Refuses p end_place ts f)
  some_answer over = answered (p.read (looked_at ts)) refl (over (looked_at ts))

-- a fault with its place is that of the tokens
pub placed_parsed : {A : Type 0} {s : Bool} (p : Symbol (λ n. n) s A) (end_place : Place) (ts left : List Lexeme) (x : ParseError) → (x ≡ e.Unexpected → p.read (looked_at ts) ≡ Err left)
    → (fault : SyntaxFault) → fault ≡ placed end_place ts left x → fault ≢ Memory → (at : List Lexeme) × (p.read (looked_at ts) ≡ Err at) × (fault_by end_place ts at ≡ fault)
placed_parsed p end_place ts left e.Memory h fault is other = absurd (other is)
placed_parsed p end_place ts left e.Unexpected h fault is other = (left, h refl, sym is)
