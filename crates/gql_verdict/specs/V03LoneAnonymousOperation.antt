-- V03, Lone Anonymous Operation: an operation without a name is not the only one (GraphQL 5.2.2.1).
-- Reported at the start of the operation, about an empty text.
use Rattle.std.specs.Prelude.{List, [], ◌∷◌, flat_map, count_by, nat_lt, Bool, false, is_some, not, if◌then◌else◌}
use Rattle.gql_ast.specs.Trees.{place_of}
use Rattle.gql_ast.specs.declared.definition.Definition.{Definition}
use Rattle.gql_ast.specs.declared.definition.Tree.{Tree}
use Rattle.gql_ast.specs.declared.definition.Tree.TheVariants as tree
use Rattle.gql_ast.specs.declared.fault.Fault.{Fault}
use Rattle.gql_ast.specs.declared.rule.Rule.TheVariants as rule
use Rattle.gql_rules.specs.Faults.{fault_at}
use Rattle.gql_rules.specs.LocalFaults.{owner_of}
use Rattle.gql_verdict.specs.Definitions.{is_operation}

-- whether a definition is an operation without a name
abbrev pub is_anonymous : Tree → Bool
is_anonymous (tree.Operation o) = not (is_some o.name)
is_anonymous _ = false

-- the fault of an operation without a name
abbrev pub fault_if_anonymous : Definition → List Fault
fault_if_anonymous d = if is_anonymous d.tree
    then fault_at (owner_of d) rule.V03 [] (place_of d.tree) ∷ []
    else []

-- the faults of all definitions: there are none if at most one of them is an operation
abbrev pub faults : List Definition → List Fault
faults ds = if nat_lt 1 (count_by (λ (d : Definition). is_operation d.tree) ds)
    then flat_map fault_if_anonymous ds
    else []
