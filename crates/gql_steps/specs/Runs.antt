-- Helper definitions for private contracts: what an operation comes to, by its root type and the
-- plan of its selections.
use Rattle.std.specs.Prelude.{◌≡◌, ◌≤◌, ℕ, List, [], map, false, Some}
use Rattle.gql_ast.specs.declared.executable.Operation.{Operation}
use Rattle.gql_ast.specs.declared.executable.VariableDefinition.{VariableDefinition}
use Rattle.gql_coerce.specs.declared.refusal.Refusal.{Refusal}
use Rattle.gql_collect.specs.Nodes.{in_file}
use Rattle.gql_intro.specs.declared.made.IntroSchema.{IntroSchema}
use Rattle.gql_facts.specs.declared.fact.FragmentFact.{FragmentFact}
use Rattle.gql_types.specs.Schemas.{kind_named, root_of}
use Rattle.gql_types.specs.declared.kind.TypeKind.TheVariants as kind
use Rattle.gql_types.specs.declared.roots.Root.{Root}
use Rattle.gql_types.specs.declared.schema.Schema.{Schema}
use Rattle.serde_json.specs.Data.{Data}
use Rattle.gql_stored.specs.Effects.{Effect}
use Rattle.gql_steps.specs.Execution.{Answer, Plan, answered}
use Rattle.gql_steps.specs.Outcomes.{AnOutcome}
use Rattle.gql_steps.specs.Plans.{Basis, IsPlan}
use Rattle.gql_steps.specs.Replies.{Reply}
use Rattle.gql_steps.specs.Requests as requests
use Rattle.gql_steps.specs.Requests.{Request, answer_for, request_error, response_of, variable_at}
use Rattle.gql_steps.specs.States as states
use Rattle.gql_steps.specs.States.{Done}
use Rattle.gql_steps.specs.Texts.{value_part}
use Rattle.gql_steps.specs.declared.ended.Ended.{Ended}
use Rattle.gql_steps.specs.declared.run.FieldError.{FieldError}
use Rattle.gql_steps.specs.declared.run.Run.{Run}

-- the request of these parts
abbrev pub request : Schema → IntroSchema → List FragmentFact → List ℕ → Operation → Data → Data
    → Request
request schema made fragments file operation variables stored = record {
  schema = schema;
  made = made;
  fragments = fragments;
  file = file;
  operation = operation;
  variables = variables;
  stored = stored;
}

-- `Holds` is true of the answer of an operation, for each plan that it has
abbrev pub Answering : Basis → List ℕ → Operation → Data → (Answer → Type 0) → Type 0
Answering g file operation stored Holds = (root : Root) → (x : Plan)
    → root_of g.given.schema operation.kind ≡ Some root
    → kind_named g.given.schema root.name.node.text ≡ Some kind.Object
    → IsPlan g root.name.node.text (in_file file operation.selections) x
    → Holds (answer_for operation.kind g x root.name.node.text stored)

-- the outcome of an answer, of which no more values are completed than this number
abbrev pub IsOutcomeOf : ℕ → AnOutcome → Answer → Type 0
IsOutcomeOf most o a = (a.weight ≤ most) × (o ≡ (response_of a).outcome)

-- the outcome of a variable that is refused
abbrev pub IsRefused : List VariableDefinition → Refusal → AnOutcome → Type 0
IsRefused definitions refusal o = (v : VariableDefinition)
    → variable_at definitions refusal.path ≡ Some v
    → o ≡ (request_error v refusal.reason refusal.path).outcome

-- ---- runs

-- nothing is executed yet
pub record IsFresh (s : Run) : Type 0 where
  pub out : s.out.items ≡ []
  pub errors : s.errors.items ≡ []
  pub raised : s.raised ≡ false

-- the text and the errors that a run has written, with these effects
abbrev pub came_to : Run → List Effect → AnOutcome
came_to u effects = record {
  text = Some u.out.items;
  errors = map (λ (e : FieldError). requests.error_of (states.error_of e)) u.errors.items;
  effects = effects;
}

-- a run that began fresh and has ended in this way comes to this outcome, with these effects: of
-- no more values than were left at its beginning
abbrev pub Finishes : Ended → Run → List Effect → AnOutcome → Type 0
Finishes ended u effects o = (r : Reply Data) → (s : Run) → IsFresh s
    → Done (value_part r) ended s u → IsOutcomeOf s.left o (answered effects r)
