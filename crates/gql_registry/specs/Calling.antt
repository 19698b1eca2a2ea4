-- Helper definitions for private contracts: whether an operation is run, and what its execution
-- gives, for each response of the request.
use Rattle.std.specs.Prelude.{◌≡◌, ◌<◌, ◌≤◌, Bool}
use Rattle.gql_ast.specs.declared.definition.Definition.{Definition}
use Rattle.gql_ast.specs.declared.definition.Tree.TheVariants as tree
use Rattle.gql_ast.specs.declared.executable.Operation.{Operation}
use Rattle.gql_ast.specs.declared.files.Files.{Files}
use Rattle.gql_steps.specs.Requests.{Executes, Response, request_of}
use Rattle.gql_registry.specs.Calls.{outcome_of}
use Rattle.gql_registry.specs.Prepared as prepared
use Rattle.gql_registry.specs.Runs.{is_run}
use Rattle.gql_registry.specs.declared.calling.Ran.{Ran}
use Rattle.gql_registry.specs.declared.refusal.Refusal.{Refusal}
use Rattle.gql_registry.specs.declared.refusal.Refusal.TheVariants.{TooLarge, Memory}
use Rattle.serde_json.specs.Data.{Data}

-- whether the operation of a definition is run
abbrev pub TellsRun : Definition → Bool → Type 0
TellsRun d runs = (operation : Operation) → d.tree ≡ tree.Operation operation
    → runs ≡ is_run operation.kind

-- `Holds` is true of each response to the request of an operation
abbrev pub OfResponses : Files → Definition → Data → Data → (Response → Type 0) → Type 0
OfResponses files d variables stored Holds = (operation : Operation)
    → d.tree ≡ tree.Operation operation → (p : Response)
    → Executes (request_of files d operation variables stored) p → Holds p

-- this is what the response comes to, of which no more values are completed than the profile allows
abbrev pub IsOutcomeOf : Files → Definition → Data → Data → Ran → Type 0
IsOutcomeOf files d variables stored ran = OfResponses files d variables stored
    (λ p. (p.weight ≤ files.profile.limits.values) × (prepared.outcome_of ran ≡ outcome_of p))

-- the response has more values than the profile allows, or an allocation failed
abbrev pub IsOver : Files → Definition → Data → Data → Refusal → Type 0
IsOver files d variables stored TooLarge =
    OfResponses files d variables stored (λ p. files.profile.limits.values < p.weight)
IsOver files d variables stored Memory = Unit {0}
IsOver files d variables stored _ = ⊥
