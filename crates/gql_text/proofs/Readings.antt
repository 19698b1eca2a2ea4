-- Each text has one reading.
use Rattle.std.proofs.Common.{◌≡◌, ℕ, zero, suc, ◌+◌, ◌<◌, ◌≤◌, List, [], ◌∷◌, ◌++◌, length, take, drop, length-drop, refl, sym, ap, subst, ◌∙◌, arith, Bool, true, false, inl, inr, ◌⊎◌}
use Rattle.std.specs.Prelude.{◌==◌, ◌&&◌, not}
use Rattle.std.proofs.lemmas.Bool.{cases_lt}
use Rattle.gql_text.specs.Chars.{three_quotes, one_quote}
use Rattle.gql_text.specs.Marks.{plain_part}
use Rattle.gql_text.specs.Pieces.{string_piece, block_piece}
use Rattle.gql_text.specs.Place.{place_after}
use Rattle.gql_text.specs.Lexeme.{Lexeme}
use Rattle.gql_text.specs.Lexis.{Run, closes, goes, stops, refused_at, Stands, block_string, string, plain, Tokens, at_end, dropped, token, Faulty, here, behind_dropped, behind_token, IsLexed, LexFails, too_long, first}
use Rattle.gql_text.specs.Laws.{HasReading}
use Rattle.gql_text.specs.declared.place.Place.{Place}
use Rattle.gql_text.specs.declared.token.Kind.{Kind}
use Rattle.gql_text.specs.declared.token.Kind.TheVariants.{StringValue, BlockString}
use Rattle.gql_text.specs.declared.token.LexRefusal.{LexRefusal}
use Rattle.gql_text.specs.declared.token.LexRefusal.TheVariants.{TooLong}
use Rattle.gql_text.specs.declared.front.Part.{Part}
use Rattle.gql_text.specs.declared.front.Part.TheVariants.{Dropped, Taken, Refused}
use Rattle.gql_text.specs.declared.front.Piece.{Piece}
use Rattle.gql_text.specs.declared.front.Piece.TheVariants.{Closes, Goes, Stops}
use Rattle.gql_text.proofs.Fitting.{IsPiecewise, strings, blocks, stands_fits}

-- one run

pub run_one : (f : List ℕ → Piece) (kind : Kind) {n : ℕ} {bs : List ℕ} {p q : Part} → Run f kind n bs p → Run f kind n bs q → p ≡ q
run_one f kind {n} (closes {k = k} e m) (closes {k = j} g l) = let same : k ≡ j = cc in ap (λ x. Taken kind x) (m ∙ ap (λ x. n + x) same ∙ sym l)
run_one f kind {n} (closes e m) (goes g r) = absurd (cc)
run_one f kind {n} (closes e m) (stops g l) = absurd (cc)
run_one f kind {n} (goes e r) (closes g l) = absurd (cc)
run_one f kind {n} {bs} {p} {q} (goes {k = k} e r) (goes {k = j} g s) = let same : j ≡ k = cc in run_one f kind r (subst (λ i. Run f kind (n + i) (drop i bs) q) same s)
run_one f kind {n} (goes e r) (stops g l) = absurd (cc)
run_one f kind {n} (stops e m) (closes g l) = absurd (cc)
run_one f kind {n} (stops e m) (goes g r) = absurd (cc)
run_one f kind {n} (stops {m = i} {refusal = a} e m) (stops {m = j} {refusal = b} g l) =
    let same : a ≡ b = cc in subst (λ x. (k : ℕ) → k ≡ refused_at x n → Refused a i ≡ Refused x k) same (λ k h. ap (λ y. Refused a y) (m ∙ sym h)) j l

split_quotes : (p q r : Bool) → (p && q && r) ≡ true → (p && not (q && r)) ≡ true → ⊥
split_quotes true true true e h = cc
split_quotes true true false e h = cc
split_quotes true false r e h = cc
split_quotes false q r e h = cc

-- one quote and three can't stand together
pub quotes_apart : (text : List ℕ) → three_quotes text ≡ true → one_quote text ≡ true → ⊥
quotes_apart [] e h = cc
quotes_apart (a ∷ []) e h = cc
quotes_apart (a ∷ b ∷ []) e h = cc
quotes_apart (a ∷ b ∷ c ∷ bs) e h = split_quotes (a == 34) (b == 34) (c == 34) e h

pub stands_one : {text : List ℕ} {p q : Part} → Stands text p → Stands text q → p ≡ q
stands_one (block_string e r) (block_string g s) = run_one block_piece BlockString r s
stands_one (block_string {text = text} e r) (string g s) = absurd (quotes_apart text e g)
stands_one (block_string e r) (plain x y g) = absurd (cc)
stands_one (string {text = text} e r) (block_string g s) = absurd (quotes_apart text g e)
stands_one (string e r) (string g s) = run_one string_piece StringValue r s
stands_one (string e r) (plain x y g) = absurd (cc)
stands_one (plain x y e) (block_string g s) = absurd (cc)
stands_one (plain x y e) (string g s) = absurd (cc)
stands_one (plain x y e) (plain u v g) = e ∙ sym g

no_part : {p : Part} → Stands [] p → ⊥
no_part (block_string e r) = cc
no_part (string e r) = cc

taken_one : (text : List ℕ) (a b : Kind) (n m : ℕ) → Stands text (Taken a n) → Stands text (Taken b m) → (a ≡ b) × (n ≡ m)
taken_one text a b n m s t = let same = stands_one s t in (cc, cc)

pub tokens_one : {before rest : List ℕ} {a b : List Lexeme} → Tokens before rest a → Tokens before rest b → a ≡ b
tokens_one at_end at_end = refl
tokens_one at_end (dropped s t) = absurd (no_part s)
tokens_one at_end (token s t) = absurd (no_part s)
tokens_one (dropped s t) at_end = absurd (no_part s)
tokens_one {before} {rest} {a} {b} (dropped {n = n} s t) (dropped {n = m} u v) =
    let both = stands_one u s in let same : m ≡ n = cc in
    tokens_one t (subst (λ i. Tokens (before ++ take i rest) (drop i rest) b) same v)
tokens_one (dropped s t) (token u v) = let both = stands_one s u in absurd (cc)
tokens_one (token s t) at_end = absurd (no_part s)
tokens_one (token s t) (dropped u v) = let both = stands_one s u in absurd (cc)
tokens_one {before} {rest} (token {kind = k} {n = n} {tokens = ts} s t) (token {kind = j} {n = m} {tokens = us} u v) =
    let both = taken_one rest j k m n u s in
    let more = tokens_one t (subst (λ i. Tokens (before ++ take i rest) (drop i rest) us) both.1 v) in
    ap (λ (x : Kind). record { kind = x; text = take n rest; place = place_after before } ∷ ts) (sym both.0)
    ∙ ap (λ (x : ℕ). record { kind = j; text = take x rest; place = place_after before } ∷ ts) (sym both.1)
    ∙ ap (λ (x : List Lexeme). record { kind = j; text = take m rest; place = place_after before } ∷ x) more

pub faulty_one : {before rest : List ℕ} {a b : LexRefusal} {p q : Place} → Faulty before rest a p → Faulty before rest b q → (a ≡ b) × (p ≡ q)
faulty_one {before} {rest} (here {n = n} s e) (here {n = m} u g) =
    let both = stands_one s u in let same : n ≡ m = cc in
    (cc, e ∙ ap (λ i. place_after (before ++ take i rest)) same ∙ sym g)
faulty_one (here s e) (behind_dropped u v) = let both = stands_one s u in absurd (cc)
faulty_one (here s e) (behind_token u v) = let both = stands_one s u in absurd (cc)
faulty_one (behind_dropped s t) (here u g) = let both = stands_one s u in absurd (cc)
faulty_one {before} {rest} {a} {b} {p} {q} (behind_dropped {n = n} s t) (behind_dropped {n = m} u v) =
    let both = stands_one u s in let same : m ≡ n = cc in
    faulty_one t (subst (λ i. Faulty (before ++ take i rest) (drop i rest) b q) same v)
faulty_one (behind_dropped s t) (behind_token u v) = let both = stands_one s u in absurd (cc)
faulty_one (behind_token s t) (here u g) = let both = stands_one s u in absurd (cc)
faulty_one (behind_token s t) (behind_dropped u v) = let both = stands_one s u in absurd (cc)
faulty_one {before} {rest} {a} {b} {p} {q} (behind_token {n = n} s t) (behind_token {n = m} u v) =
    let both = stands_one u s in let same : m ≡ n = cc in
    faulty_one t (subst (λ i. Faulty (before ++ take i rest) (drop i rest) b q) same v)

pub not_both : {before rest : List ℕ} {ts : List Lexeme} {a : LexRefusal} {p : Place} → Tokens before rest ts → Faulty before rest a p → ⊥
not_both at_end (here u g) = no_part u
not_both at_end (behind_dropped u v) = no_part u
not_both at_end (behind_token u v) = no_part u
not_both (dropped s t) (here u g) = let both = stands_one s u in cc
not_both {before} {rest} {ts} {a} {p} (dropped {n = n} s t) (behind_dropped {n = m} u v) =
    let both = stands_one u s in let same : m ≡ n = cc in
    not_both t (subst (λ i. Faulty (before ++ take i rest) (drop i rest) a p) same v)
not_both (dropped s t) (behind_token u v) = let both = stands_one s u in cc
not_both (token s t) (here u g) = let both = stands_one s u in cc
not_both (token s t) (behind_dropped u v) = let both = stands_one s u in cc
not_both {before} {rest} {ts} {a} {p} (token {n = n} s t) (behind_token {n = m} u v) =
    let both = stands_one u s in let same : m ≡ n = cc in
    not_both t (subst (λ i. Faulty (before ++ take i rest) (drop i rest) a p) same v)

pub lexed_one : {limit : ℕ} {source : List ℕ} {a b : List Lexeme} → IsLexed limit source a → IsLexed limit source b → a ≡ b
lexed_one h g = tokens_one h.tokens_of g.tokens_of

pub fails_one : {limit : ℕ} {source : List ℕ} {a b : LexRefusal} {p q : Place} → LexFails limit source a p → LexFails limit source b q → (a ≡ b) × (p ≡ q)
fails_one (too_long h e) (too_long g d) = (refl, e ∙ sym d)
fails_one (too_long h e) (first g d) = absurd (omega (arith, h, g))
fails_one (first h e) (too_long g d) = absurd (omega (arith, h, g))
fails_one (first h e) (first g d) = faulty_one e d

pub lexed_or_fails : {limit : ℕ} {source : List ℕ} {ts : List Lexeme} {a : LexRefusal} {p : Place} → IsLexed limit source ts → LexFails limit source a p → ⊥
lexed_or_fails l (too_long h e) = omega (arith, l.short, h)
lexed_or_fails l (first h e) = not_both l.tokens_of e

-- some run, if there is one behind each piece that goes on
run_from : (f : List ℕ → Piece) (kind : Kind) → IsPiecewise f → (n : ℕ) (bs : List ℕ)
    → ((k : ℕ) → 0 < k → k ≤ length bs → (p : Part) × Run f kind (n + k) (drop k bs) p) → (x : Piece) → f bs ≡ x → (p : Part) × Run f kind n bs p
run_from f kind w n bs more (Closes k) e = (Taken kind (n + k), closes e refl)
run_from f kind w n bs more (Goes k) e = let s = w.gone bs k e in let r = more k s.some s.within in (r.0, goes e r.1)
run_from f kind w n bs more (Stops a) e = (Refused a (refused_at a n), stops e refl)

-- some run, of a rest with at most that many bytes
run_some : (f : List ℕ → Piece) (kind : Kind) → IsPiecewise f → (fuel n : ℕ) (bs : List ℕ) → length bs ≤ fuel → (p : Part) × Run f kind n bs p
run_some f kind w zero n bs h = run_from f kind w n bs (λ k some within. absurd (omega arith)) (f bs) refl
run_some f kind w (suc fuel) n bs h = run_from f kind w n bs (λ k some within. run_some f kind w fuel (n + k) (drop k bs) (omega (arith, length-drop k bs))) (f bs) refl

stands_from : (b : ℕ) (bs : List ℕ) (x y : Bool) → three_quotes (b ∷ bs) ≡ x → one_quote (b ∷ bs) ≡ y → (p : Part) × Stands (b ∷ bs) p
stands_from b bs true y e g = let r = run_some block_piece BlockString blocks (length (drop 3 (b ∷ bs))) 3 (drop 3 (b ∷ bs)) (omega arith) in (r.0, block_string e r.1)
stands_from b bs false true e g = let r = run_some string_piece StringValue strings (length (drop 1 (b ∷ bs))) 1 (drop 1 (b ∷ bs)) (omega arith) in (r.0, string g r.1)
stands_from b bs false false e g = (plain_part b bs, plain e g refl)

-- the rest of a text has tokens, or a fault
pub Reads : List ℕ → List ℕ → Type 0
Reads before rest = ((tokens : List Lexeme) × Tokens before rest tokens) ⊎ ((refusal : LexRefusal) × (place : Place) × Faulty before rest refusal place)

-- it does, if what follows its first part does
reads_from : (before rest : List ℕ) → ((n : ℕ) → 0 < n → n ≤ length rest → Reads (before ++ take n rest) (drop n rest)) → (p : Part) → Stands rest p → Reads before rest
unfolding Reads
reads_from before rest more (Dropped n) s =
    let f = stands_fits s in
    elim (more n (f.some refl) f.within) [ inl r ↦ inl (r.0, dropped s r.1) | inr r ↦ inr (r.0, r.1, behind_dropped s r.2) ]
reads_from before rest more (Taken kind n) s =
    let f = stands_fits s in
    elim (more n (f.some refl) f.within) [ inl r ↦ inl (_, token s r.1) | inr r ↦ inr (r.0, r.1, behind_token s r.2) ]
reads_from before rest more (Refused refusal n) s = inr (refusal, place_after (before ++ take n rest), here s refl)

reads : (fuel : ℕ) (before rest : List ℕ) → length rest ≤ fuel → Reads before rest
unfolding Reads
reads fuel before [] h = inl ([], at_end)
reads zero before (b ∷ bs) h = absurd (omega arith)
reads (suc fuel) before (b ∷ bs) h =
    let s = stands_from b bs (three_quotes (b ∷ bs)) (one_quote (b ∷ bs)) refl refl in
    reads_from before (b ∷ bs) (λ n some within. reads fuel (before ++ take n (b ∷ bs)) (drop n (b ∷ bs)) (omega (arith, length-drop n (b ∷ bs)))) s.0 s.1

pub reading : (limit : ℕ) (source : List ℕ) → HasReading limit source
unfolding Reads
reading limit source = elim (cases_lt limit (length source)) [
  | inl h ↦ inr (TooLong, place_after [], too_long h refl)
  | inr h ↦ elim (reads (length source) [] source (omega arith)) [
    | inl r ↦ inl (r.0, record { short = h; tokens_of = r.1 })
    | inr r ↦ inr (r.0, r.1, first h r.2)
  ]
]
