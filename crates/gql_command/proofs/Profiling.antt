-- The words of a command line, and the option `--profile` among them.
use Rattle.std.proofs.Common.{◌≡◌, ◌∙◌, ◌<◌, ◌≤◌, ℕ, suc, List, [], ◌∷◌, ◌++◌, Bool, true, false, Option, Some, None, Result, IfOk, ap, sym, subst, refl, arith, length, map, take, drop, bytes_eq, nat_eq, codes, Bor, if◌then◌else◌}
use Rattle.std.specs.List.{starts_with}
use Rattle.std.proofs.lemmas.List.{map-append}
use Rattle.clap.specs.Walk.{Text, texts}
use Rattle.gql_ast.specs.Profiles.{whole_numbers}
use Rattle.gql_ast.specs.declared.profile.Profile.{Profile}
use Rattle.gql_command.specs.Options.{parts_of, with_found}
use Rattle.gql_command.specs.Profiles.{Parts, after, options, named_apart, profile_named, split}
use Rattle.gql_command.specs.declared.profile.Found.{Found}

-- what a word is, by two tests: the option, the option with its name
abbrev choose : List Text → Text → List Text → Bool → Bool → Parts
choose before w ws is has =
    if is then after before (named_apart ws)
    else if has then after before (profile_named (drop 10 w), ws)
    else options (before ++ w ∷ []) ws

pub at_option : (w : Text) (ws : List Text) (p : Parts) → bytes_eq w (codes "--profile") ≡ true → p ≡ named_apart ws → (before : List Text) → options before (w ∷ ws) ≡ after before p
at_option w ws p o is before = (λ i. choose before w ws (o i) (starts_with nat_eq w (codes "--profile="))) ∙ ap (after before) (sym is)

pub at_named : (w : Text) (ws : List Text) (p : Option Profile) → bytes_eq w (codes "--profile") ≡ false → starts_with nat_eq w (codes "--profile=") ≡ true → p ≡ profile_named (drop 10 w)
    → (before : List Text) → options before (w ∷ ws) ≡ after before (p, ws)
at_named w ws p o n is before = (λ i. choose before w ws (o i) (n i)) ∙ ap (λ q. after before (q, ws)) (sym is)

pub at_word : (w : Text) (ws : List Text) → bytes_eq w (codes "--profile") ≡ false → starts_with nat_eq w (codes "--profile=") ≡ false
    → (before : List Text) → options before (w ∷ ws) ≡ options (before ++ w ∷ []) ws
at_word w ws o n before = λ i. choose before w ws (o i) (n i)

-- the option is found at the first word
pub found_first : (rest words : List (Bor Text)) (w : Bor Text) (ws : List (Bor Text)) (r : Option Found) (found : Found) (new : List (Bor Text)) → words ≡ w ∷ ws
    → ((before : List Text) → options before (w.now ∷ texts ws) ≡ with_found before w.now (texts ws) r) → r ≡ Some found → new ≡ rest ++ found.words.now
    → (found.profile, texts new) ≡ options (texts rest) (texts words)
found_first rest words w ws r found new are says is e = ap (λ xs. (found.profile, texts xs)) e
    ∙ ap (λ xs. (found.profile, xs)) (map-append (λ (s : Bor Text). s.now) rest found.words.now)
    ∙ sym (ap (λ xs. options (texts rest) (texts xs)) are ∙ says (texts rest) ∙ ap (with_found (texts rest) w.now (texts ws)) is)

-- the first word is another one
pub word_first : {E : Type 0} (rest words : List (Bor Text)) (w : Bor Text) (ws : List (Bor Text)) (r : Option Found) (middle new : List (Bor Text)) (result : Result (Option Profile) E) → words ≡ w ∷ ws
    → ((before : List Text) → options before (w.now ∷ texts ws) ≡ with_found before w.now (texts ws) r) → r ≡ None → middle ≡ rest ++ w ∷ []
    → IfOk result (λ p. (p, texts new) ≡ options (texts middle) (texts ws)) → IfOk result (λ p. (p, texts new) ≡ options (texts rest) (texts words))
word_first rest words w ws r middle new result are says is e h =
    subst (λ (parts : Parts). IfOk result (λ p. (p, texts new) ≡ parts)) (sym same) h
  where
    same : options (texts rest) (texts words) ≡ options (texts middle) (texts ws)
    same = ap (λ xs. options (texts rest) (texts xs)) are ∙ says (texts rest) ∙ ap (with_found (texts rest) w.now (texts ws)) is
        ∙ ap (λ xs. options xs (texts ws)) (sym (map-append (λ (s : Bor Text). s.now) rest (w ∷ [])))
        ∙ ap (λ xs. options (texts xs) (texts ws)) (sym e)

-- there is no word
pub no_word : (rest words : List (Bor Text)) → words ≡ [] → (p : Option Profile) → p ≡ Some whole_numbers → (p, texts rest) ≡ options (texts rest) (texts words)
no_word rest words none p is = ap (λ q. (q, texts rest)) is ∙ sym (ap (λ xs. options (texts rest) (texts xs)) none)

-- a command line of fewer than two words
pub split_short : (ws : List (Bor Text)) → length ws < 2 → (Some whole_numbers, texts ws) ≡ split (texts ws)
split_short [] h = refl
split_short (w ∷ []) h = refl
split_short (w ∷ v ∷ ws) h = absurd (too_long (length ws) h)
  where
    too_long : (n : ℕ) → suc (suc n) < 2 → ⊥
    too_long n h = omega arith

-- one of two words or more
pub split_long : (ws : List (Bor Text)) → 2 ≤ length ws → options (texts (take 2 ws)) (texts (drop 2 ws)) ≡ split (texts ws)
split_long [] h = absurd (none h)
  where
    none : 2 ≤ 0 → ⊥
    none h = omega arith
split_long (w ∷ []) h = absurd (one h)
  where
    one : 2 ≤ 1 → ⊥
    one h = omega arith
split_long (w ∷ v ∷ ws) h = refl

-- the words after the first are fewer
pub shorter : (words : List (Bor Text)) (w : Bor Text) (ws : List (Bor Text)) → words ≡ w ∷ ws → length ws < length words
shorter words w ws are = subst (λ (xs : List (Bor Text)). length ws < length xs) (sym are) (one_more (length ws))
  where
    one_more : (n : ℕ) → n < suc n
    one_more n = omega arith
