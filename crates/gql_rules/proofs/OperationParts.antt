-- The parts of an operation that are visited one after another are its faults.
use Rattle.std.specs.Prelude.{◌≡◌, ℕ, List, ◌++◌, flat_map, Option}
use Rattle.std.proofs.Common.{ap, ◌∙◌, arith}
use Rattle.std.proofs.lemmas.Grind.{common_steps}
use Rattle.gql_ast.specs.declared.executable.Operation.{Operation}
use Rattle.gql_ast.specs.declared.fault.Fault.{Fault}
use Rattle.gql_ast.specs.declared.fault.FilePlace.{FilePlace}
use Rattle.gql_facts.specs.Nodes.{composite, root_in}
use Rattle.gql_facts.specs.OwnReads.{selected_by}
use Rattle.gql_facts.specs.Worlds.{Facts}
use Rattle.gql_facts.specs.declared.fact.Fact.{Fact}
use Rattle.gql_facts.specs.declared.key.Key.TheVariants as key
use Rattle.gql_rules.specs.LocalFaults.{operation_faults, directives_faults, variable_faults, set_visit}
use Rattle.gql_rules.specs.Locations.{location_of}
use Rattle.gql_rules.specs.P03Subscriptions as p03
use Rattle.gql_rules.specs.P05MutationsWithoutARoot as p05

five : {A : Type 0} (x a b c d e : List A) → ((((x ++ a) ++ b) ++ c) ++ d) ++ e ≡ x ++ (a ++ (b ++ (c ++ (d ++ e))))
five x a b c d e = grind (arith, common_steps)

module _ (F : Facts) (owner : FilePlace) (o : Operation) where
  pub visited : (root : Fact) (F1 F2 F3 F4 : Facts) (selected parent : Option (List ℕ)) (f0 f1 f2 f3 f4 f5 : List Fault)
      → root ≡ F (key.RootOf o.kind) → F1 ≡ F → F2 ≡ F → F3 ≡ F → F4 ≡ F
      → f1 ≡ f0 ++ p03.faults_by owner o o.kind (root_in root)
      → f2 ≡ f1 ++ p05.faults_by owner o o.kind (root_in root)
      → f3 ≡ f2 ++ directives_faults F1 owner (location_of o.kind) o.directives
      → f4 ≡ f3 ++ flat_map (variable_faults F2 owner) o.variables
      → selected ≡ selected_by o.kind root
      → parent ≡ composite F3 selected
      → f5 ≡ f4 ++ set_visit F4 owner parent o.selections
      → f5 ≡ f0 ++ operation_faults F owner o
  visited root F1 F2 F3 F4 selected parent f0 f1 f2 f3 f4 f5 answer s1 s2 s3 s4 e1 e2 e3 e4 chosen entered e5 =
      e5 ∙ ap (λ l. l ++ set_visit F4 owner parent o.selections)
      (e4 ∙ ap (λ l. l ++ flat_map (variable_faults F2 owner) o.variables)
      (e3 ∙ ap (λ l. l ++ directives_faults F1 owner (location_of o.kind) o.directives)
      (e2 ∙ ap (λ l. l ++ p05.faults_by owner o o.kind (root_in root)) e1)))
      ∙ five f0 (p03.faults_by owner o o.kind (root_in root)) (p05.faults_by owner o o.kind (root_in root)) (directives_faults F1 owner (location_of o.kind) o.directives)
      (flat_map (variable_faults F2 owner) o.variables) (set_visit F4 owner parent o.selections)
      ∙ ap (λ f. f0 ++ (p03.faults_by owner o o.kind (root_in f) ++ (p05.faults_by owner o o.kind (root_in f) ++ (directives_faults F1 owner (location_of o.kind) o.directives
      ++ (flat_map (variable_faults F2 owner) o.variables ++ set_visit F4 owner parent o.selections))))) answer
      ∙ ap (λ f. f0 ++ (p03.faults F owner o ++ (p05.faults F owner o ++ (directives_faults f owner (location_of o.kind) o.directives
      ++ (flat_map (variable_faults F2 owner) o.variables ++ set_visit F4 owner parent o.selections))))) s1
      ∙ ap (λ f. f0 ++ (p03.faults F owner o ++ (p05.faults F owner o ++ (directives_faults F owner (location_of o.kind) o.directives
      ++ (flat_map (variable_faults f owner) o.variables ++ set_visit F4 owner parent o.selections))))) s2
      ∙ ap (λ f. f0 ++ (p03.faults F owner o ++ (p05.faults F owner o ++ (directives_faults F owner (location_of o.kind) o.directives
      ++ (flat_map (variable_faults F owner) o.variables ++ set_visit f owner parent o.selections))))) s4
      ∙ ap (λ p. f0 ++ (p03.faults F owner o ++ (p05.faults F owner o ++ (directives_faults F owner (location_of o.kind) o.directives
      ++ (flat_map (variable_faults F owner) o.variables ++ set_visit F owner p o.selections)))))
      (entered ∙ ap (λ f. composite f selected) s3 ∙ ap (composite F) (chosen ∙ ap (selected_by o.kind) answer))
