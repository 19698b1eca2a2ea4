-- Which definitions the removal of a part of the schema breaks: this registry's own rule.
use Rattle.std.specs.Prelude.{◌≡◌, ◌≢◌, ◌⊎◌, List, Contains, None, Option, Some}
use Rattle.gql_ast.specs.declared.definition.Definition.{Definition}
use Rattle.gql_ast.specs.declared.definition.Tree.{Tree}
use Rattle.gql_ast.specs.declared.definition.Tree.TheVariants as tree
use Rattle.gql_ast.specs.declared.executable.OperationKind.{OperationKind}
use Rattle.gql_ast.specs.declared.fault.Fault.{Fault}
use Rattle.gql_facts.specs.Worlds.{Facts}
use Rattle.gql_facts.specs.declared.key.Key.TheVariants as key
use Rattle.gql_removal.specs.Removals.{without}
use Rattle.gql_removal.specs.declared.removal.Removal.{Removal}
use Rattle.gql_verdict.specs.Faults.{IsFaultIn}

-- with the facts after, a definition has a fault that it does not have with those before
abbrev pub GainsFault : Facts → Facts → Definition → Type 0
GainsFault before after d = (f : Fault) × IsFaultIn after d f × (IsFaultIn before d f → ⊥)

-- the kind of an operation; another definition has none
abbrev pub operation_kind : Tree → Option OperationKind
operation_kind (tree.Operation o) = Some o.kind
operation_kind _ = None

-- the root operation type of a kind is removed
abbrev pub LosesRootOf : Facts → Removal → OperationKind → Type 0
LosesRootOf facts r k = without r facts (key.RootOf k) ≢ facts (key.RootOf k)

-- an operation whose root operation type is removed
abbrev pub LosesRoot : Facts → Removal → Tree → Type 0
LosesRoot facts r t =
    (k : OperationKind) × (operation_kind t ≡ Some k) × LosesRootOf facts r k

-- The removal of a part breaks a definition: the definition gains a fault by it, or it is an operation
-- that loses its root.
abbrev pub Breaks : Facts → Removal → Definition → Type 0
Breaks facts r d = GainsFault facts (without r facts) d ⊎ LosesRoot facts r d.tree

-- the removal of a part breaks none of these definitions: nobody reads the part
abbrev pub IsUnread : Facts → Removal → List Definition → Type 0
IsUnread facts r definitions = (d : Definition) → Contains definitions d → Breaks facts r d → ⊥
