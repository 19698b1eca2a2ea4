-- Repetition: a symbol, as often as the next tokens pass a test.
use Rattle.std.specs.Prelude.{◌≡◌, ℕ, zero, suc, ◌<◌, ◌≤◌, Bool, true, false, if◌then◌else◌, List, [], ◌∷◌, ◌++◌, length, Ok, Err, refl}
use Rattle.std.proofs.Common.{arith, sym, ap, ap₂, ◌∙◌, cond, append_assoc, append-nil, subst}
use Rattle.gql_text.specs.Lexeme.{Lexeme}
use Rattle.gql_grammar.specs.Levels.{level}
use Rattle.gql_grammar.specs.Symbol.{Phrase, Part, Outcome, Reader, Rule, Takes, Shifts, and_then, ◌>>=◌}

-- Reads items while the test holds, at most n of them. Each takes a token, so one more than their
-- count is enough.
unfoldable pub while_from : {A : Type 0} → (List Lexeme → Bool) → Reader A → ℕ → List A
    → Reader (List A)
while_from test item zero found = λ ts. Err ts
while_from test item (suc n) found = λ ts.
    if test ts then and_then (item ts) (λ x. while_from test item n (found ++ x ∷ []))
    else Ok (found, ts)

-- the rule derives these items one after another, and the test holds before each
abbrev pub Items : {A : Type 0} → (List Lexeme → Bool) → Rule A → List Lexeme → List A → List Lexeme
    → Type 0
Items test item ts [] rest = ts ≡ rest
Items test item ts (x ∷ xs) rest = (test ts ≡ true) × (middle : List Lexeme)
    × item ts (Ok (x, middle)) × Items test item middle xs rest

-- the outcomes of a repetition, after some items were found: more items until the test fails, or up
-- to one that fails
abbrev pub After : {A : Type 0} → (List Lexeme → Bool) → Rule A → List A → Rule (List A)
After {A = A} test item found ts (Ok r) =
    (xs : List A) × (found ++ xs ≡ r.0) × Items test item ts xs r.1 × (test r.1 ≡ false)
After {A = A} test item found ts (Err e) = (xs : List A) × (middle : List Lexeme)
    × Items test item ts xs middle × (test middle ≡ true) × item middle (Err e)

after_item : {A : Type 0} (test : List Lexeme → Bool) (item : Rule A) (found : List A)
    (ts middle : List Lexeme) (x : A) (o : Outcome (List A)) → test ts ≡ true
    → item ts (Ok (x, middle))
    → After test item (found ++ x ∷ []) middle o → After test item found ts o
after_item test item found ts middle x (Ok r) more h k =
    (x ∷ k.0, sym (append_assoc found (x ∷ []) k.0) ∙ k.1, (more, middle, h, k.2), k.3)
after_item test item found ts middle x (Err e) more h k =
    (x ∷ k.0, k.1, (more, middle, h, k.2), k.3, k.4)

after_outcome : {A : Type 0} (test : List Lexeme → Bool) (item : Phrase A) (n : ℕ) (found : List A)
    (ts : List Lexeme) (o : Outcome A)
    → ((found : List A) (middle : List Lexeme) → length middle < n
    → After test item.Allows found middle (while_from test item.read n found middle))
    → length ts < suc n → test ts ≡ true → item.Allows ts o → Takes true ts o
    → After test item.Allows found ts
    (and_then o (λ x. while_from test item.read n (found ++ x ∷ [])))
after_outcome test item n found ts (Ok r) go enough more h less =
    after_item test item.Allows found ts r.1 r.0 _ more h (go (found ++ r.0 ∷ []) r.1 (omega arith))
after_outcome test item n found ts (Err e) go enough more h less = ([], ts, refl, more, h)

after_test : {A : Type 0} (test : List Lexeme → Bool) (item : Phrase A) (n : ℕ) (found : List A)
    (ts : List Lexeme) (pass : Bool)
    → ((found : List A) (middle : List Lexeme) → length middle < n
    → After test item.Allows found middle (while_from test item.read n found middle))
    → length ts < suc n → test ts ≡ pass
    → After test item.Allows found ts
    (cond pass (and_then (item.read ts) (λ x. while_from test item.read n (found ++ x ∷ [])))
    (Ok (found, ts)))
after_test test item n found ts true go enough is =
    after_outcome test item n found ts (item.read ts) go enough is (item.holds ts) (item.takes ts)
after_test test item n found ts false go enough is = ([], append-nil found, refl, is)

after_from : {A : Type 0} (test : List Lexeme → Bool) (item : Phrase A) (n : ℕ) (found : List A)
    (ts : List Lexeme) → length ts < n
    → After test item.Allows found ts (while_from test item.read n found ts)
unfolding while_from
after_from test item zero found ts enough = absurd (omega arith)
after_from test item (suc n) found ts enough =
    after_test test item n found ts (test ts)
    (λ f middle less. after_from test item n f middle less) enough refl

pub while_holds : {A : Type 0} (test : List Lexeme → Bool) (item : Phrase A) (found : List A)
    (ts : List Lexeme) → After test item.Allows found ts
    (while_from test item.read (suc (length ts)) found ts)
while_holds test item found ts = after_from test item (suc (length ts)) found ts (omega arith)

item_taken : {A : Type 0} (ts middle : List Lexeme) (x : A) (o : Outcome A) → Takes true ts o
    → o ≡ Ok (x, middle) → length middle < length ts
item_taken ts middle x o less e = subst (λ p. Takes true ts p) e less

item_level : {A : Type 0} (ts middle : List Lexeme) (x : A) (o : Outcome A) → Shifts (λ n. n) ts o
    → o ≡ Ok (x, middle) → (n : ℕ) → level n ts ≡ level n middle
item_level ts middle x o same e = subst (λ p. Shifts (λ n. n) ts p) e same

pub item_read : {A : Type 0} (test : List Lexeme → Bool) (item : Reader A) (n : ℕ) (found : List A)
    (ts middle : List Lexeme) (x : A) → test ts ≡ true → item ts ≡ Ok (x, middle)
    → while_from test item (suc n) found ts ≡ while_from test item n (found ++ x ∷ []) middle
unfolding while_from
item_read test item n found ts middle x more is = rw (more, is)

-- these items are read, one after another, and enough turns are left
items_read : {A : Type 0} (test : List Lexeme → Bool) (item : Phrase A) (xs : List A) (n : ℕ)
    (found : List A) (ts rest : List Lexeme) → length ts < n → Items test item.Allows ts xs rest
    → (m : ℕ) × (length rest < m)
    × (while_from test item.read n found ts ≡ while_from test item.read m (found ++ xs) rest)
items_read test item [] n found ts rest enough h = (
  n,
  subst (λ r. length r < n) h enough,
  ap₂ (λ f t. while_from test item.read n f t) (sym (append-nil found)) h,
)
items_read test item (x ∷ xs) zero found ts rest enough h = absurd (omega arith)
items_read test item (x ∷ xs) (suc n) found ts rest enough h =
    let is = item.only ts (Ok (x, h.1)) h.2 in
    let less = item_taken ts h.1 x (item.read ts) (item.takes ts) is in
    let next = items_read test item xs n (found ++ x ∷ []) h.1 rest (omega arith) h.3 in (
      next.0,
      next.1,
      item_read test item.read n found ts h.1 x h.0 is ∙ next.2
          ∙ ap (λ f. while_from test item.read next.0 f rest) (append_assoc found (x ∷ []) xs),
    )

end_read : {A : Type 0} (test : List Lexeme → Bool) (item : Phrase A) (n : ℕ) (found : List A)
    (ts : List Lexeme) → length ts < n → test ts ≡ false
    → while_from test item.read n found ts ≡ Ok (found, ts)
unfolding while_from
end_read test item zero found ts enough is = absurd (omega arith)
end_read test item (suc n) found ts enough is = rw is

fault_read : {A : Type 0} (test : List Lexeme → Bool) (item : Phrase A) (n : ℕ) (found : List A)
    (ts e : List Lexeme) → length ts < n → test ts ≡ true → item.Allows ts (Err e)
    → while_from test item.read n found ts ≡ Err e
unfolding while_from
fault_read test item zero found ts e enough more h = absurd (omega arith)
fault_read test item (suc n) found ts e enough more h = rw (more, item.only ts (Err e) h)

pub while_only : {A : Type 0} (test : List Lexeme → Bool) (item : Phrase A) (found : List A)
    (ts : List Lexeme) (o : Outcome (List A)) → After test item.Allows found ts o
    → while_from test item.read (suc (length ts)) found ts ≡ o
while_only test item found ts (Ok r) h =
    let run = items_read test item h.0 (suc (length ts)) found ts r.1 (omega arith) h.2 in
    run.2 ∙ end_read test item run.0 (found ++ h.0) r.1 run.1 h.3 ∙ ap (λ xs. Ok (xs, r.1)) h.1
while_only test item found ts (Err e) h =
    let run = items_read test item h.0 (suc (length ts)) found ts h.1 (omega arith) h.2 in
    run.2 ∙ fault_read test item run.0 (found ++ h.0) h.1 e run.1 h.3 h.4

items_shrink : {A : Type 0} (test : List Lexeme → Bool) (item : Phrase A) (xs : List A)
    (ts rest : List Lexeme) → Items test item.Allows ts xs rest → length rest ≤ length ts
items_shrink test item [] ts rest h = omega (arith, ap length h)
items_shrink test item (x ∷ xs) ts rest h =
    let less = item_taken ts h.1 x (item.read ts) (item.takes ts) (item.only ts (Ok (x, h.1)) h.2) in
    omega (arith, less, items_shrink test item xs h.1 rest h.3)

items_level : {A : Type 0} (test : List Lexeme → Bool) (item : Phrase A) (xs : List A)
    (ts rest : List Lexeme) → Items test item.Allows ts xs rest → (n : ℕ)
    → level n ts ≡ level n rest
items_level test item [] ts rest h n = ap (level n) h
items_level test item (x ∷ xs) ts rest h n = item_level ts h.1 x (item.read ts) (item.shifts ts)
    (item.only ts (Ok (x, h.1)) h.2) n ∙ items_level test item xs h.1 rest h.3 n

taken_by : {A : Type 0} (test : List Lexeme → Bool) (item : Phrase A) (found : List A)
    (ts : List Lexeme) (o : Outcome (List A)) → After test item.Allows found ts o → Takes false ts o
taken_by test item found ts (Ok r) h = items_shrink test item h.0 ts r.1 h.2
taken_by test item found ts (Err e) h = tt

level_by : {A : Type 0} (test : List Lexeme → Bool) (item : Phrase A) (found : List A)
    (ts : List Lexeme) (o : Outcome (List A)) → After test item.Allows found ts o
    → Shifts (λ n. n) ts o
level_by test item found ts (Ok r) h = items_level test item h.0 ts r.1 h.2
level_by test item found ts (Err e) h = tt

pub while_takes : {A : Type 0} (test : List Lexeme → Bool) (item : Phrase A) (found : List A)
    (ts : List Lexeme) → Takes false ts (while_from test item.read (suc (length ts)) found ts)
while_takes test item found ts = taken_by test item found ts _ (while_holds test item found ts)

pub while_shifts : {A : Type 0} (test : List Lexeme → Bool) (item : Phrase A) (found : List A)
    (ts : List Lexeme) → Shifts (λ n. n) ts (while_from test item.read (suc (length ts)) found ts)
while_shifts test item found ts = level_by test item found ts _ (while_holds test item found ts)

-- more items, after those that were found
abbrev pub further : {A : Type 0} → (List Lexeme → Bool) → Phrase A → List A → Part (List A)
further test item found = record {
  read = λ ts. while_from test item.read (suc (length ts)) found ts;
  Allows = After test item.Allows found;
  holds = while_holds test item found;
  only = while_only test item found;
  takes = while_takes test item found;
  shifts = while_shifts test item found;
}

-- any number of items, for as long as the test holds
abbrev pub any_while : {A : Type 0} → (List Lexeme → Bool) → Phrase A → Part (List A)
any_while test item = further test item []

-- one or more items: a first, and more for as long as the test holds
abbrev pub some_while : {A : Type 0} → (List Lexeme → Bool) → Phrase A → Phrase (List A)
some_while test item = do
  x ← item
  further test item (x ∷ [])

-- an item, and more, each of which another symbol reads
abbrev pub first_then : {A : Type 0} → (List Lexeme → Bool) → Phrase A → Phrase A → Phrase (List A)
first_then test first item = do
  x ← first
  further test item (x ∷ [])
