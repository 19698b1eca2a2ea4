-- V04, Field Selections: the parent type has no field of this name (GraphQL 5.3.1).
-- Reported at the start of the field, about the field.
use Rattle.std.specs.Prelude.{ℕ, List, [], ◌∷◌, Option, Some, None}
use Rattle.gql_ast.specs.declared.fault.Fault.{Fault}
use Rattle.gql_ast.specs.declared.fault.FilePlace.{FilePlace}
use Rattle.gql_ast.specs.declared.rule.Rule.TheVariants as rule
use Rattle.gql_facts.specs.Nodes.{FieldNode}
use Rattle.gql_facts.specs.Worlds.{Facts}
use Rattle.gql_facts.specs.declared.fact.FieldFact.{FieldFact}
use Rattle.gql_rules.specs.Answers.{field_of}
use Rattle.gql_rules.specs.Faults.{fault_at}
use Rattle.gql_rules.specs.Parts.{start_of}

-- the fault of a field, by its parent type and the definition there
abbrev pub faults_by : FilePlace → FieldNode → Option (List ℕ) → Option FieldFact → List Fault
faults_by owner f None known = []
faults_by owner f (Some t) None = fault_at owner rule.V04 f.name.text (start_of f) ∷ []
faults_by owner f (Some t) (Some known) = []

-- the fault of a field
abbrev pub faults : Facts → FilePlace → FieldNode → List Fault
faults facts owner f = faults_by owner f f.parent (field_of facts f.parent f.name.text)
