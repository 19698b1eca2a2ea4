-- V12, Fragment Spread Type Existence: a type condition names no type (GraphQL 5.5.1.2).
-- Reported at the type's name, about the type.
use Rattle.std.specs.Prelude.{List, [], ◌∷◌, Option, Some, None}
use Rattle.gql_ast.specs.declared.fault.Fault.{Fault}
use Rattle.gql_ast.specs.declared.fault.FilePlace.{FilePlace}
use Rattle.gql_ast.specs.declared.rule.Rule.TheVariants as rule
use Rattle.gql_ast.specs.declared.text.Name.{Name}
use Rattle.gql_types.specs.declared.kind.TypeKind.{TypeKind}
use Rattle.gql_facts.specs.Worlds.{Facts}
use Rattle.gql_rules.specs.Answers.{kind_of}
use Rattle.gql_rules.specs.Faults.{fault_of}

-- the fault of a type condition whose type has this kind
abbrev pub faults_by : FilePlace → Name → Option TypeKind → List Fault
faults_by owner condition None = fault_of owner rule.V12 condition ∷ []
faults_by owner condition (Some k) = []

-- the fault of a type condition
abbrev pub faults : Facts → FilePlace → Name → List Fault
faults facts owner condition = faults_by owner condition (kind_of facts condition.text)
