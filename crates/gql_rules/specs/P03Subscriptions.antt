-- P03, Subscriptions: an operation is a subscription, and the schema has no subscription root (this
-- registry's own rule).
-- Reported at the operation's start, about its name, or empty.
use Rattle.std.specs.Prelude.{ℕ, List, [], ◌∷◌, Option, Some, None}
use Rattle.gql_ast.specs.declared.executable.Operation.{Operation}
use Rattle.gql_ast.specs.declared.executable.OperationKind.{OperationKind}
use Rattle.gql_ast.specs.declared.executable.OperationKind.TheVariants as operation
use Rattle.gql_ast.specs.declared.fault.Fault.{Fault}
use Rattle.gql_ast.specs.declared.fault.FilePlace.{FilePlace}
use Rattle.gql_ast.specs.declared.rule.Rule.TheVariants as rule
use Rattle.gql_facts.specs.Nodes.{root_in}
use Rattle.gql_facts.specs.Worlds.{Facts}
use Rattle.gql_facts.specs.declared.key.Key.TheVariants as key
use Rattle.gql_rules.specs.Faults.{fault_at}
use Rattle.gql_rules.specs.Parts.{name_or_empty}

-- by the kind of the operation, and the name of the root operation type of the kind
abbrev pub faults_by : FilePlace → Operation → OperationKind → Option (List ℕ) → List Fault
faults_by owner o operation.Subscription None =
    fault_at owner rule.P03 (name_or_empty o.name) o.place ∷ []
faults_by owner o operation.Subscription (Some root) = []
faults_by owner o operation.Query root = []
faults_by owner o operation.Mutation root = []

-- the fault of an operation
abbrev pub faults : Facts → FilePlace → Operation → List Fault
faults facts owner o = faults_by owner o o.kind (root_in (facts (key.RootOf o.kind)))
