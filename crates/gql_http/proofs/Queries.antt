-- Where the query of a target begins.
use Rattle.std.proofs.Common.{◌≡◌, ◌≤◌, ◌+◌, ℕ, List, [], ◌∷◌, length, Bool, true, false, refl, ap, ◌∙◌, arith}
use Rattle.std.specs.Prelude.{not}
use Rattle.std.specs.List.{prefix_len}
use Rattle.std.proofs.lemmas.List.Folds.{length-prefix_len}
use Rattle.gql_http.specs.Routes.{is_question_mark, path_of, has_query}

before_mark : (target : List ℕ) → has_query target ≡ true → prefix_len (λ b. not (is_question_mark b)) target + 1 ≤ length target
before_mark [] some = absurd (cc)
before_mark (b ∷ target) some = by (is_question_mark b) refl some (λ rest. before_mark target rest)
  where
    by : (t : Bool) → is_question_mark b ≡ t → has_query (b ∷ target) ≡ true
        → (has_query target ≡ true → prefix_len (λ b. not (is_question_mark b)) target + 1 ≤ length target) → prefix_len (λ b. not (is_question_mark b)) (b ∷ target) + 1 ≤ length (b ∷ target)
    by true is some later = rw is (omega arith)
    by false is some later = let rest = later (rw is at some) in rw is (omega arith)

-- a path ends before the first mark
pub path_within : (target path : List ℕ) → path ≡ path_of target → has_query target ≡ true → length path + 1 ≤ length target
path_within target path is some =
    let count : length path ≡ prefix_len (λ b. not (is_question_mark b)) target = ap length is ∙ length-prefix_len (λ b. not (is_question_mark b)) target in
    let within = before_mark target some in
    omega arith
