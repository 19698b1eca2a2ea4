-- V13, Fragments On Composite Types: a type condition names a type that is not composite (GraphQL
-- 5.5.1.3).
-- Reported at the type's name, about the type.
use Rattle.std.specs.Prelude.{List, [], ◌∷◌, Option, if◌then◌else◌}
use Rattle.gql_ast.specs.declared.fault.Fault.{Fault}
use Rattle.gql_ast.specs.declared.fault.FilePlace.{FilePlace}
use Rattle.gql_ast.specs.declared.rule.Rule.TheVariants as rule
use Rattle.gql_ast.specs.declared.text.Name.{Name}
use Rattle.gql_types.specs.Kinds.{is_composite}
use Rattle.gql_types.specs.declared.kind.TypeKind.{TypeKind}
use Rattle.gql_facts.specs.Worlds.{Facts}
use Rattle.gql_faults.specs.Faults.{where_known}
use Rattle.gql_rules.specs.Answers.{kind_of}
use Rattle.gql_rules.specs.Faults.{fault_of}

-- the fault of a type condition whose type has this kind
abbrev pub faults_by : FilePlace → Name → Option TypeKind → List Fault
faults_by owner condition kind = where_known kind (λ (k : TypeKind).
    if is_composite k then [] else fault_of owner rule.V13 condition ∷ [])

-- the fault of a type condition
abbrev pub faults : Facts → FilePlace → Name → List Fault
faults facts owner condition = faults_by owner condition (kind_of facts condition.text)
