use Rattle.std.proofs.Common.{◌≡◌, ◌≢◌, ◌∙◌, ◌++◌, ◌∷◌, [], List, ℕ, Bor, MatchOption, None, Option, Some, ap, append_assoc, lit<, sym}
use Rattle.std.proofs.lemmas.List.{append_cancel_right}
use Rattle.std.proofs.lemmas.Str.Pattern.{strip_suffix_char}
use Rattle.gql_removal.specs.Subjects.{closing, colon}
use Rattle.gql_removal.proofs.subject.before_end.Goals as goal

-- what ends with `)` after a text ends with `:)` if the text ends with `:`
both : (rest before : List ℕ) (r : Option (Bor (List ℕ))) → rest ≡ before ++ (closing ∷ [])
    → MatchOption r ((name : List ℕ) → before ≢ name ++ (colon ∷ [])) (λ x. before ≡ x.now ++ (colon ∷ []))
    → MatchOption r ((name : List ℕ) → rest ≢ name ++ colon ∷ closing ∷ []) (λ x. rest ≡ x.now ++ colon ∷ closing ∷ [])
both rest before None e h = λ name f. h name (append_cancel_right before (name ++ (colon ∷ [])) (closing ∷ [])
    (sym e ∙ f ∙ sym (append_assoc name (colon ∷ []) (closing ∷ []))))
both rest before (Some x) e h = e ∙ ap (λ l. l ++ (closing ∷ [])) h ∙ append_assoc x.now (colon ∷ []) (closing ∷ [])

pub returns-in-Some : goal.returns-in-Some
returns-in-Some c =
    let after = strip_suffix_char 41 c.args.rest.now (Some c.in-Some.before) c.in-Some.ensures.cases (lit< tt) in
    both c.args.rest.now c.in-Some.before.now c.strip_suffix-in-Some.result after
    (strip_suffix_char 58 c.in-Some.before.now c.strip_suffix-in-Some.result c.strip_suffix-in-Some.ensures.cases (lit< tt))

pub returns-in-None : goal.returns-in-None
returns-in-None c =
    let none = strip_suffix_char 41 c.args.rest.now None c.in-None.ensures.cases (lit< tt) in
    λ name e. none (name ++ (colon ∷ [])) (e ∙ sym (append_assoc name (colon ∷ []) (closing ∷ [])))
