-- Names that occur more than once, for the rules of uniqueness (GraphQL 3.3 to 3.13).
use Rattle.std.specs.Prelude.{ℕ, List, filter, count_by, bytes_eq, nat_lt}
use Rattle.gql_ast.specs.declared.text.Name.{Name}
use Rattle.gql_ast.specs.declared.fault.Fault.{Fault}
use Rattle.gql_ast.specs.declared.rule.Rule.{Rule}
use Rattle.gql_built_in.specs.declared.sited.Sited.{Sited}
use Rattle.gql_faults.specs.Faults.{faults_of}

-- how many of these names have this text
abbrev pub count_of : List ℕ → List (Sited Name) → ℕ
count_of text names = count_by (λ (n : Sited Name). bytes_eq text n.node.text) names

-- the names whose text occurs more than once, each of them
abbrev pub repeated : List (Sited Name) → List (Sited Name)
repeated names = filter (λ (n : Sited Name). nat_lt 1 (count_of n.node.text names)) names

-- a fault at each name that occurs more than once
abbrev pub repeated_faults : Rule → List (Sited Name) → List Fault
repeated_faults rule names = faults_of rule (repeated names)
