-- Lists that have nothing to remove stay as they are.
use Rattle.std.proofs.Common.{◌≡◌, ◌∙◌, ◌++◌, ◌∷◌, ◌||◌, [], ℕ, List, Bool, true, false, ap, refl, bytes_eq, if◌then◌else◌, true≢false}
use Rattle.std.specs.List.{list_any}
use Rattle.gql_facts.specs.declared.fact.InputFact.{InputFact}
use Rattle.gql_removal.specs.Removals.{names_but, inputs_of_others}

-- neither of two is true
first_false : (a b : Bool) → (a || b) ≡ false → a ≡ false
first_false true b e = absurd (true≢false e)
first_false false b e = refl

second_false : (a b : Bool) → (a || b) ≡ false → b ≡ false
second_false true b e = absurd (true≢false e)
second_false false b e = e

pub names_stay : (t : List ℕ) (names : List (List ℕ)) → list_any (bytes_eq t) names ≡ false → names_but t names ≡ names
names_stay t [] e = refl
names_stay t (n ∷ names) e =
    ap (λ b. (if b then [] else n ∷ []) ++ names_but t names) (first_false (bytes_eq t n) (list_any (bytes_eq t) names) e)
    ∙ ap (λ rest. n ∷ rest) (names_stay t names (second_false (bytes_eq t n) (list_any (bytes_eq t) names) e))

pub inputs_stay : (t : List ℕ) (inputs : List InputFact) → list_any (λ (i : InputFact). bytes_eq t i.of_type.name) inputs ≡ false → inputs_of_others t inputs ≡ inputs
inputs_stay t [] e = refl
inputs_stay t (i ∷ inputs) e =
    ap (λ b. (if b then [] else i ∷ []) ++ inputs_of_others t inputs) (first_false (bytes_eq t i.of_type.name) (list_any (λ (j : InputFact). bytes_eq t j.of_type.name) inputs) e)
    ∙ ap (λ rest. i ∷ rest) (inputs_stay t inputs (second_false (bytes_eq t i.of_type.name) (list_any (λ (j : InputFact). bytes_eq t j.of_type.name) inputs) e))
