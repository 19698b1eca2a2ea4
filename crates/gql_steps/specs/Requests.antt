-- What a request of an operation comes to (GraphQL 6.1, 6.2 and 7.1).
use Rattle.std.specs.Prelude.{◌≡◌, ◌≢◌, ◌<◌, ◌≤◌, ℕ, List, [], ◌∷◌, codes, map, find, bytes_eq, Option, Some, None, unwrap_or}
use Rattle.gql_ast.specs.declared.definition.Definition.{Definition}
use Rattle.gql_ast.specs.declared.definition.Tree.TheVariants as tree
use Rattle.gql_ast.specs.declared.executable.Operation.{Operation}
use Rattle.gql_ast.specs.declared.executable.OperationKind.{OperationKind}
use Rattle.gql_ast.specs.declared.executable.OperationKind.TheVariants as operation
use Rattle.gql_ast.specs.declared.executable.VariableDefinition.{VariableDefinition}
use Rattle.gql_ast.specs.declared.files.Files.{Files}
use Rattle.gql_coerce.specs.Comes as comes
use Rattle.gql_coerce.specs.Requests.{VariablesCome}
use Rattle.gql_coerce.specs.declared.refusal.Reason.{Reason}
use Rattle.gql_coerce.specs.declared.refusal.Segment.{Segment}
use Rattle.gql_coerce.specs.declared.refusal.Segment.TheVariants as segment
use Rattle.gql_collect.specs.Nodes.{in_file}
use Rattle.gql_facts.specs.Facts.{fragments as fragments_of}
use Rattle.gql_facts.specs.declared.fact.FragmentFact.{FragmentFact}
use Rattle.gql_intro.specs.Made.{made_of}
use Rattle.gql_intro.specs.declared.made.IntroSchema.{IntroSchema}
use Rattle.gql_types.specs.Schemas.{append_of, kind_named, root_of, schema_of}
use Rattle.gql_types.specs.declared.kind.TypeKind.TheVariants as kind
use Rattle.gql_types.specs.declared.roots.Root.{Root}
use Rattle.gql_types.specs.declared.schema.Schema.{Schema}
use Rattle.serde_json.specs.Data as json
use Rattle.serde_json.specs.Data.{Data}
use Rattle.serde_json.specs.Find.{get}
use Rattle.gql_steps.specs.JsonText.{json_text}
use Rattle.gql_steps.specs.Execution.{Answer, Plan, answer, mutation_answer}
use Rattle.gql_steps.specs.Outcomes.{AnError, AnOutcome}
use Rattle.gql_steps.specs.Plans.{Basis, IsPlan, refusal_text, types_of}
use Rattle.gql_steps.specs.Replies.{Error}

-- what is executed: an operation of a file, with the schema, what introspection makes of it, the
-- fragments of the documents, the values that the request gives its variables, and the data
pub record Request : Type 0 where
  pub schema : Schema
  pub made : IntroSchema
  pub fragments : List FragmentFact
  pub file : List ℕ
  pub operation : Operation
  pub variables : Data
  pub stored : Data

-- what a request comes to, and how many values were completed
pub record Response : Type 0 where
  pub outcome : AnOutcome
  pub weight : ℕ

-- ---- errors

-- a field error, as one that may have a path
abbrev pub error_of : Error → AnError
error_of e = record { message = e.message; place = e.place; path = Some e.path }

-- the variable that a path begins with
abbrev pub variable_at : List VariableDefinition → List Segment → Option VariableDefinition
variable_at definitions (segment.Key name ∷ path) =
    find (λ (v : VariableDefinition). bytes_eq name v.name.text) definitions
variable_at definitions path = None

-- the request error for a variable that is refused: there is no data, and nothing is executed
abbrev pub request_error : VariableDefinition → Reason → List Segment → Response
request_error v why path = record {
  outcome = record {
    text = None;
    errors = record {
      message = refusal_text (codes "variable $") why path;
      place = v.place;
      path = None;
    } ∷ [];
    effects = [];
  };
  weight = 0;
}

-- ---- data

-- the member of the data on which an operation of this kind is executed
abbrev pub root_member : OperationKind → List ℕ
root_member operation.Query = codes "query"
root_member operation.Mutation = codes "mutation"
root_member operation.Subscription = codes "subscription"

-- the value on which an operation of this kind is executed
abbrev pub initial_value : OperationKind → Data → Data
initial_value kind stored = unwrap_or (get (root_member kind) stored) (json.object json.no_members)

-- an answer, with its text
abbrev pub response_of : Answer → Response
response_of a = record {
  outcome = record {
    text = Some (json_text a.value);
    errors = map error_of a.errors;
    effects = a.effects;
  };
  weight = a.weight;
}

-- ---- requests

-- what the fields of a request are executed with, if its variables have these values
abbrev pub basis_of : Request → Data → Basis
basis_of r values = record {
  given = record { schema = r.schema; fragments = r.fragments; values = values };
  made = r.made;
}

-- the answer of a plan of an operation of this kind, for the root type of this name, on the stored
-- data: a mutation may add to them
abbrev pub answer_for : OperationKind → Basis → Plan → List ℕ → Data → Answer
answer_for operation.Query g x root stored =
    answer (types_of g) x root (initial_value operation.Query stored)
answer_for operation.Mutation g x root stored = mutation_answer (types_of g)
    (append_of g.given.schema root) x root stored (initial_value operation.Mutation stored)
answer_for operation.Subscription g x root stored =
    answer (types_of g) x root (initial_value operation.Subscription stored)

-- The variables are coerced first (CoerceVariableValues); the first refusal is a request error. If
-- there is none, the selections are executed on the initial value, for the root type, which is an
-- object type.
pub data Executes (r : Request) : Response → Type 0 where
  refused : {why : Reason} {path : List Segment} {v : VariableDefinition}
      → VariablesCome r.schema r.operation.variables r.variables (comes.refused why path)
      → variable_at r.operation.variables path ≡ Some v → Executes r (request_error v why path)
  executed : {values : Data} {root : Root} (x : Plan)
      → VariablesCome r.schema r.operation.variables r.variables (comes.value values)
      → root_of r.schema r.operation.kind ≡ Some root
      → kind_named r.schema root.name.node.text ≡ Some kind.Object
      → IsPlan (basis_of r values) root.name.node.text (in_file r.file r.operation.selections) x
      → Executes r (response_of
      (answer_for r.operation.kind (basis_of r values) x root.name.node.text r.stored))

-- ---- calls

-- What a caller keeps of files from one execution to the next: their schema, what introspection
-- makes of it, and the fragments of the documents.
pub record IsKeptOf (files : Files) (s : Schema) (i : IntroSchema) (fs : List FragmentFact)
    : Type 0 where
  pub schema : s ≡ schema_of files
  pub made : i ≡ made_of files (schema_of files)
  pub fragments : fs ≡ fragments_of files.documents

-- a request of an operation of the document files, with these values for its variables and this
-- data
abbrev pub request_of : Files → Definition → Operation → Data → Data → Request
request_of files d operation variables stored = record {
  schema = schema_of files;
  made = made_of files (schema_of files);
  fragments = fragments_of files.documents;
  file = d.file;
  operation = operation;
  variables = variables;
  stored = stored;
}

-- a definition is not an operation
abbrev pub IsNoOperation : Definition → Type 0
IsNoOperation d = (operation : Operation) → d.tree ≢ tree.Operation operation

-- the outcome of a definition that is not an operation: there is nothing to execute
abbrev pub no_outcome : AnOutcome
no_outcome = record { text = None; errors = []; effects = [] }

-- the outcome of a request, of which no more values are completed than this number
abbrev pub IsOutcome : ℕ → Request → AnOutcome → Type 0
IsOutcome most r o = (p : Response) → Executes r p → (p.weight ≤ most) × (o ≡ p.outcome)

-- the request has more values to complete than this number
abbrev pub IsTooHeavy : ℕ → Request → Type 0
IsTooHeavy most r = (p : Response) → Executes r p → most < p.weight
