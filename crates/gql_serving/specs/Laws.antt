-- The laws of operations that are served: every request of one has a response, and none is a
-- subscription where the profile has no subscriptions.
use Rattle.std.specs.Prelude.{◌≡◌, ◌≢◌, false, Contains}
use Rattle.gql_ast.specs.declared.definition.Definition.{Definition}
use Rattle.gql_ast.specs.declared.definition.Tree.TheVariants as tree
use Rattle.gql_ast.specs.declared.executable.Operation.{Operation}
use Rattle.gql_ast.specs.declared.executable.OperationKind.TheVariants as kinds
use Rattle.gql_ast.specs.declared.fault.Fault.{Fault}
use Rattle.gql_ast.specs.declared.files.Files.{Files}
use Rattle.gql_steps.specs.Requests.{Executes, Response, request_of}
use Rattle.gql_facts.specs.Facts.{fact_of}
use Rattle.gql_serving.specs.SoundSchemas.{IsSound}
use Rattle.gql_serving.specs.Owned.{IsOwned}
use Rattle.gql_verdict.specs.Definitions.{all_definitions}
use Rattle.gql_verdict.specs.Faults.{IsFaultIn}
use Rattle.serde_json.specs.Data.{Data}

-- no definition of the document files has a fault that d, or a fragment that d reaches, owns
abbrev pub HasNoFault : Files → Definition → Type 0
HasNoFault files d = (x : Definition) (f : Fault) → Contains (all_definitions files.documents) x
    → IsFaultIn (fact_of files) x f → IsOwned (fact_of files) d f → ⊥

-- if the schema has no fault, every request of an operation without faults has a response
abbrev pub SomeAnswer : Type 0
SomeAnswer = (files : Files) (d : Definition) (operation : Operation)
    → d.tree ≡ tree.Operation operation → Contains (all_definitions files.documents) d
    → IsSound files → HasNoFault files d → (variables stored : Data)
    → (p : Response) × Executes (request_of files d operation variables stored) p

-- if the schema has no fault, no operation without faults is a subscription where the profile of the
-- files has no subscriptions
abbrev pub NoSubscriptions : Type 0
NoSubscriptions = (files : Files) (d : Definition) (operation : Operation)
    → files.profile.subscriptions ≡ false
    → d.tree ≡ tree.Operation operation → Contains (all_definitions files.documents) d
    → IsSound files → HasNoFault files d → operation.kind ≢ kinds.Subscription
