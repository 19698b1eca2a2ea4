-- What a parser of sources answers.
use Rattle.std.proofs.Common.{◌≡◌, ◌⊎◌, inl, inr, ℕ, List, [], Result, Ok, Err, Bool, IfOk, sym, refl, ◌∙◌, ap, subst}
use Rattle.gql_text.specs.Lexeme.{Lexeme}
use Rattle.gql_text.specs.Lexis.{IsLexed, IsLexFault}
use Rattle.gql_text.specs.Place.{place_after}
use Rattle.gql_text.specs.declared.place.Place.{Place}
use Rattle.gql_text.specs.declared.token.LexFault.{LexFault}
use Rattle.gql_text.specs.declared.token.LexFault.TheVariants as lexed
use Rattle.gql_grammar.specs.Symbol.{Symbol}
use Rattle.gql_text.specs.declared.token.LexRefusal.{LexRefusal}
use Rattle.gql_grammar.specs.Files.{Accepts, OrMemory, Parses, Refuses, fault_of, refusal_of}
use Rattle.gql_grammar.specs.Sources.{IsSourceOf, IsFaultOf}
use Rattle.gql_grammar.specs.declared.fault.SyntaxRefusal.{SyntaxRefusal}
use Rattle.gql_grammar.specs.declared.fault.SyntaxFault.{SyntaxFault}
use Rattle.gql_grammar.specs.declared.fault.SyntaxFault.TheVariants.{At, Memory}
use Rattle.gql_text.specs.Laws.{HasReading}
use Rattle.gql_text.proofs.Readings.{lexed_one, fails_one, lexed_or_fails, reading}
use Rattle.gql_grammar.proofs.Files.{parsed_accepted, accepted_parsed, parsed_refused, refused_parsed, one_tree, one_fault, not_both, some_answer}

-- a tree that is parsed is that of the source
pub source_accepted : {A : Type 0} {s : Bool} (p : Symbol (λ n. n) s A) (limit : ℕ) (source : List ℕ) (ts : List Lexeme) (r : Result A SyntaxFault) (end : Place) → IsLexed limit source ts → end ≡ place_after source → Parses p end ts r
    → IfOk r (λ a. IsSourceOf p limit source a)
source_accepted p limit source ts (Ok a) end h e k = (ts, h, parsed_accepted p end ts (Ok a) k)
source_accepted p limit source ts (Err f) end h e k = tt

-- and so is a fault
pub source_refused : {A : Type 0} {s : Bool} (p : Symbol (λ n. n) s A) (limit : ℕ) (source : List ℕ) (ts : List Lexeme) (r : Result A SyntaxFault) (end : Place) → IsLexed limit source ts → end ≡ place_after source → Parses p end ts r
    → (number : SyntaxRefusal) (place : Place) → r ≡ Err (At number place) → IsFaultOf p limit source (At number place)
source_refused p limit source ts r end h e k number place is = inr (ts, h, subst (λ there. Refuses p there ts (At number place)) e (parsed_refused p end ts r k number place is))

lexer_by : {A : Type 0} {s : Bool} (p : Symbol (λ n. n) s A) (limit : ℕ) (source : List ℕ) (fault : LexFault) → IsLexFault limit source fault
    → (number : SyntaxRefusal) (place : Place) → fault_of fault ≡ At number place → IsFaultOf p limit source (At number place)
lexer_by p limit source (lexed.At n there) h number place is = inl (n, there, h, is)
lexer_by p limit source lexed.Memory h number place is = cc

-- and one of the lexer
pub lexer_refused : {A : Type 0} {s : Bool} (p : Symbol (λ n. n) s A) (limit : ℕ) (source : List ℕ) (fault : LexFault) → IsLexFault limit source fault → (found : SyntaxFault) → found ≡ fault_of fault
    → (number : SyntaxRefusal) (place : Place) → ◌≡◌ {A = Result A SyntaxFault} (Err found) (Err (At number place)) → IsFaultOf p limit source (At number place)
lexer_refused p limit source fault h found is number place e =
    let same : found ≡ At number place = cc in lexer_by p limit source fault h number place (sym is ∙ same)

-- the tree of the source is parsed
pub accepted_source : {A : Type 0} {s : Bool} (p : Symbol (λ n. n) s A) (limit : ℕ) (source : List ℕ) (ts : List Lexeme) (r : Result A SyntaxFault) (end : Place) → IsLexed limit source ts → end ≡ place_after source → Parses p end ts r
    → (a : A) → IsSourceOf p limit source a → OrMemory r (Ok a)
accepted_source p limit source ts r end h e k a told = accepted_parsed p end ts r k a (subst (λ us. Accepts p us a) (lexed_one told.1 h) told.2)

-- and so is its fault
pub refused_source : {A : Type 0} {s : Bool} (p : Symbol (λ n. n) s A) (limit : ℕ) (source : List ℕ) (ts : List Lexeme) (r : Result A SyntaxFault) (end : Place) → IsLexed limit source ts → end ≡ place_after source → Parses p end ts r
    → (fault : SyntaxFault) → IsFaultOf p limit source fault → OrMemory r (Err fault)
refused_source p limit source ts r end h e k fault (inl told) = absurd (lexed_or_fails h told.2)
refused_source p limit source ts r end h e k fault (inr told) =
    let here : Refuses p (place_after source) ts fault = subst (λ us. Refuses p (place_after source) us fault) (lexed_one told.1 h) told.2 in
    refused_parsed p end ts r k fault (subst (λ there. Refuses p there ts fault) (sym e) here)

-- where the lexer finds a fault there is no tree
pub lexer_complete : {A : Type 0} {s : Bool} (p : Symbol (λ n. n) s A) (limit : ℕ) (source : List ℕ) (fault : LexFault) → IsLexFault limit source fault → (found : SyntaxFault) → found ≡ fault_of fault
    → (a : A) → IsSourceOf p limit source a → OrMemory (Err found) (Ok a)
lexer_complete p limit source (lexed.At number place) h found is a told = absurd (lexed_or_fails told.1 h)
lexer_complete p limit source lexed.Memory h found is a told = inr (ap Err is)

same_at : (a b : LexRefusal) (p q : Place) → a ≡ b → p ≡ q → At (refusal_of a) p ≡ At (refusal_of b) q
same_at a b p q h k = cc

-- and no other fault
pub lexer_faulty : {A : Type 0} {s : Bool} (p : Symbol (λ n. n) s A) (limit : ℕ) (source : List ℕ) (fault : LexFault) → IsLexFault limit source fault → (found : SyntaxFault) → found ≡ fault_of fault
    → (other : SyntaxFault) → IsFaultOf p limit source other → ◌⊎◌ (◌≡◌ {A = Result A SyntaxFault} (Err found) (Err other)) (◌≡◌ {A = Result A SyntaxFault} (Err found) (Err Memory))
lexer_faulty p limit source (lexed.At number place) h found is other (inl told) =
    let same = fails_one h told.2 in inl (ap Err (is ∙ same_at number told.0 place told.1 same.0 same.1 ∙ told.3))
lexer_faulty p limit source (lexed.At number place) h found is other (inr told) = absurd (lexed_or_fails told.1 h)
lexer_faulty p limit source lexed.Memory h found is other told = inr (ap Err is)

-- ---- one answer for each source

module _ {A : Type 0} {s : Bool} (p : Symbol (λ n. n) s A) (limit : ℕ) (source : List ℕ) where
  pub one_source : (a b : A) → IsSourceOf p limit source a → IsSourceOf p limit source b → a ≡ b
  one_source a b h k = one_tree p (place_after source) h.0 a b h.2 (subst (λ us. Accepts p us b) (lexed_one k.1 h.1) k.2)

  pub one_fault_of : (f g : SyntaxFault) → IsFaultOf p limit source f → IsFaultOf p limit source g → f ≡ g
  one_fault_of f g (inl h) (inl k) = let same = fails_one h.2 k.2 in sym h.3 ∙ same_at h.0 k.0 h.1 k.1 same.0 same.1 ∙ k.3
  one_fault_of f g (inl h) (inr k) = absurd (lexed_or_fails k.1 h.2)
  one_fault_of f g (inr h) (inl k) = absurd (lexed_or_fails h.1 k.2)
  one_fault_of f g (inr h) (inr k) = one_fault p (place_after source) h.0 f g h.2 (subst (λ us. Refuses p (place_after source) us g) (lexed_one k.1 h.1) k.2)

  pub tree_or_fault : (a : A) (f : SyntaxFault) → IsSourceOf p limit source a → IsFaultOf p limit source f → ⊥
  tree_or_fault a f h (inl k) = lexed_or_fails h.1 k.2
  tree_or_fault a f h (inr k) = not_both p (place_after source) h.0 a f h.2 (subst (λ us. Refuses p (place_after source) us f) (lexed_one k.1 h.1) k.2)

  of_tokens : (ts : List Lexeme) → IsLexed limit source ts → ((a : A) × Accepts p ts a) ⊎ ((f : SyntaxFault) × Refuses p (place_after source) ts f) → ((a : A) × IsSourceOf p limit source a) ⊎ ((f : SyntaxFault) × IsFaultOf p limit source f)
  of_tokens ts h (inl k) = inl (k.0, (ts, h, k.1))
  of_tokens ts h (inr k) = inr (k.0, inr (ts, h, k.1))

  of_reading : HasReading limit source → ((us : List Lexeme) (a : A) (rest : List Lexeme) → p.read us ≡ Ok (a, rest) → rest ≡ []) → ((a : A) × IsSourceOf p limit source a) ⊎ ((f : SyntaxFault) × IsFaultOf p limit source f)
  of_reading (inl h) over = of_tokens h.0 h.1 (some_answer p (place_after source) h.0 over)
  of_reading (inr h) over = inr (At (refusal_of h.0) h.1, inl (h.0, h.1, h.2, refl))

  pub some_answer_of : ((us : List Lexeme) (a : A) (rest : List Lexeme) → p.read us ≡ Ok (a, rest) → rest ≡ []) → ((a : A) × IsSourceOf p limit source a) ⊎ ((f : SyntaxFault) × IsFaultOf p limit source f)
  some_answer_of over = of_reading (reading limit source) over
