-- V17, Fragment Spread Is Possible: no object is possible for both condition and parent (GraphQL
-- 5.5.2.3).
-- Reported at the spread's name, or the condition, about the condition.
use Rattle.std.specs.Prelude.{ℕ, List, [], ◌∷◌, Bool, bytes_eq, find, is_some, Option, Some, if◌then◌else◌}
use Rattle.std.specs.List.{list_any}
use Rattle.gql_text.specs.declared.place.Place.{Place}
use Rattle.gql_ast.specs.declared.executable.Spread.{Spread}
use Rattle.gql_ast.specs.declared.fault.Fault.{Fault}
use Rattle.gql_ast.specs.declared.fault.FilePlace.{FilePlace}
use Rattle.gql_ast.specs.declared.rule.Rule.TheVariants as rule
use Rattle.gql_ast.specs.declared.text.Name.{Name}
use Rattle.gql_facts.specs.Worlds.{Facts}
use Rattle.gql_facts.specs.declared.fact.FragmentFact.{FragmentFact}
use Rattle.gql_faults.specs.Faults.{where_known}
use Rattle.gql_rules.specs.Answers.{fragment_of, possible_of}
use Rattle.gql_rules.specs.Faults.{fault_at}

-- whether a name is one of these
abbrev pub is_among : List (List ℕ) → List ℕ → Bool
is_among names name = is_some (find (λ n. bytes_eq name n) names)

-- whether some name is in both lists
abbrev pub share_one : List (List ℕ) → List (List ℕ) → Bool
share_one these those = list_any (is_among these) those

-- the fault of a condition at a place, by its possible types and those of the parent type
abbrev pub faults_by : FilePlace → List ℕ → Place → Option (List (List ℕ)) → Option (List (List ℕ))
    → List Fault
faults_by owner condition place possible around = where_known possible
    (λ (these : List (List ℕ)). where_known around (λ (those : List (List ℕ)).
    if share_one these those then [] else fault_at owner rule.V17 condition place ∷ []))

-- the fault of a condition at a place within a parent type
abbrev pub faults_at : Facts → FilePlace → Option (List ℕ) → List ℕ → Place → List Fault
faults_at facts owner parent condition place = faults_by owner condition place
    (possible_of facts (Some condition)) (possible_of facts parent)

-- the fault of an inline fragment with this condition
abbrev pub faults_of_inline : Facts → FilePlace → Option (List ℕ) → Name → List Fault
faults_of_inline facts owner parent condition =
    faults_at facts owner parent condition.text condition.place

-- the fault of a spread, by the fragment that it names
abbrev pub faults_by_target : Facts → FilePlace → Option (List ℕ) → Spread → Option FragmentFact
    → List Fault
faults_by_target facts owner parent x target = where_known target
    (λ (g : FragmentFact). faults_at facts owner parent g.fragment.condition.text x.name.place)

-- the fault of a spread
abbrev pub faults_of_spread : Facts → FilePlace → Option (List ℕ) → Spread → List Fault
faults_of_spread facts owner parent x =
    faults_by_target facts owner parent x (fragment_of facts x.name.text)
