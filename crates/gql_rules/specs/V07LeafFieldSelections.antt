-- V07, Leaf Field Selections: a leaf field has a selection set, or a composite one has none
-- (GraphQL 5.3.3).
-- Reported at the start of the field, about the field.
use Rattle.std.specs.Prelude.{List, [], ◌∷◌, Option, if◌then◌else◌}
use Rattle.gql_ast.specs.declared.fault.Fault.{Fault}
use Rattle.gql_ast.specs.declared.fault.FilePlace.{FilePlace}
use Rattle.gql_ast.specs.declared.rule.Rule.TheVariants as rule
use Rattle.gql_types.specs.Kinds.{is_leaf, is_composite}
use Rattle.gql_types.specs.declared.kind.TypeKind.{TypeKind}
use Rattle.gql_facts.specs.Nodes.{FieldNode}
use Rattle.gql_facts.specs.Worlds.{Facts}
use Rattle.gql_faults.specs.Faults.{where_known}
use Rattle.gql_rules.specs.Answers.{field_of, kind_of_field}
use Rattle.gql_rules.specs.Faults.{fault_at}
use Rattle.gql_rules.specs.Parts.{start_of}

-- the fault of a field whose type has this kind
abbrev pub faults_by : FilePlace → FieldNode → Option TypeKind → List Fault
faults_by owner f kind = where_known kind (λ (k : TypeKind).
    if (if f.has_selections then is_leaf k else is_composite k)
    then fault_at owner rule.V07 f.name.text (start_of f) ∷ []
    else [])

-- the fault of a field
abbrev pub faults : Facts → FilePlace → FieldNode → List Fault
faults facts owner f =
    faults_by owner f (kind_of_field facts (field_of facts f.parent f.name.text))
