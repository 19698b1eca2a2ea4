-- What a call of a stored operation is answered (this registry's own rule): a refusal, if there is
-- no such operation, or the operation is faulty or not run; else the response that its execution
-- gives. A served mutation may add to the data; a refused call changes nothing.
use Rattle.std.specs.Prelude.{◌≡◌, ◌≢◌, ◌↔◌, ◌<◌, ◌≤◌, ℕ, List, [], true, false, Contains, Option, Some, None, Result, Ok, Err}
use Rattle.std.specs.List.Sorted.{IsStrictlySortedBy}
use Rattle.gql_ast.specs.declared.definition.Definition.{Definition}
use Rattle.gql_ast.specs.declared.definition.Tree.TheVariants as tree
use Rattle.gql_ast.specs.declared.executable.Operation.{Operation}
use Rattle.gql_ast.specs.declared.fault.Fault.{Fault}
use Rattle.gql_ast.specs.declared.files.Files.{Files}
use Rattle.gql_steps.specs.Requests.{Executes, Response, request_of}
use Rattle.gql_facts.specs.Facts.{fact_of}
use Rattle.gql_registry.specs.Chosen as operations
use Rattle.gql_reply.specs.ReplyText.{reply_text}
use Rattle.gql_report.specs.Order.{fault_order}
use Rattle.gql_schema_rules.specs.SchemaFaults.{IsSchemaFault}
use Rattle.gql_serving.specs.Owned.{IsOwned}
use Rattle.gql_registry.specs.Report.{IsFault}
use Rattle.gql_registry.specs.Runs.{is_run}
use Rattle.gql_registry.specs.declared.refusal.Refusal.{Refusal}
use Rattle.gql_registry.specs.declared.refusal.Refusal.TheVariants.{NoOperation, Faulty, TooLarge, NotRun, Memory}
use Rattle.gql_stored.specs.Effects.{Effect}
use Rattle.serde_json.specs.Data.{Data}

-- A fault that keeps the operation d from being executed: one of the schema, or one of the files
-- that is owned by d or a fragment that d reaches.
pub data StandsAgainst (files : Files) (d : Definition) (f : Fault) : Type 0 where
  of_schema : IsSchemaFault files f → StandsAgainst files d f
  of_documents : IsFault files f → IsOwned (fact_of files) d f → StandsAgainst files d f

-- these are the faults that keep d from being executed, each once, in the order of reports
abbrev pub AreAgainst : Files → Definition → List Fault → Type 0
AreAgainst files d faults = IsStrictlySortedBy fault_order faults
    × ((f : Fault) → Contains faults f ↔ StandsAgainst files d f)

-- the call of this name is one of the operation d, which no fault keeps from being executed
pub record IsServed (files : Files) (name : Option (List ℕ)) (d : Definition) (o : Operation)
    : Type 0 where
  pub called : operations.chosen files.documents name ≡ Some d
  pub operation : d.tree ≡ tree.Operation o
  pub sound : (f : Fault) → StandsAgainst files d f → ⊥

-- the response to a call, on this data
pub record IsResponse (files : Files) (stored : Data) (name : Option (List ℕ)) (variables : Data)
    (p : Response) : Type 0 where
  pub definition : Definition
  pub operation : Operation
  pub served : IsServed files name definition operation
  pub run : is_run operation.kind ≡ true
  pub executes : Executes (request_of files definition operation variables stored) p

-- what a served call comes to: the text of its reply, and what it adds to the data, in order
pub record CallOutcome : Type 0 where
  pub text : List ℕ
  pub effects : List Effect

-- what the response to a call comes to
abbrev pub outcome_of : Response → CallOutcome
outcome_of p = record { text = reply_text p.outcome; effects = p.outcome.effects }

-- What a call is answered, with these values for the operation's variables: what it comes to, or a
-- refusal.
pub data Answers (files : Files) (stored : Data) (name : Option (List ℕ)) (variables : Data)
    : Result CallOutcome Refusal → Type 0 where
  -- 208: there is no operation of the name; or there is no name, and not exactly one operation
  no_operation : operations.chosen files.documents name ≡ None
      → Answers files stored name variables (Err NoOperation)
  -- 209: these faults keep the operation from being executed
  faulty : {d : Definition} {faults : List Fault} → operations.chosen files.documents name ≡ Some d
      → AreAgainst files d faults → faults ≢ []
      → Answers files stored name variables (Err (Faulty faults))
  -- 213: no fault keeps the operation from being executed, but it is a subscription
  not_run : {d : Definition} {o : Operation} → IsServed files name d o → is_run o.kind ≡ false
      → Answers files stored name variables (Err NotRun)
  -- 210: more values are to be completed than the profile allows
  too_large : {p : Response} → IsResponse files stored name variables p
      → files.profile.limits.values < p.weight
      → Answers files stored name variables (Err TooLarge)
  -- the response
  served : {p : Response} → IsResponse files stored name variables p
      → p.weight ≤ files.profile.limits.values
      → Answers files stored name variables (Ok (outcome_of p))
  -- an allocation failed
  memory : Answers files stored name variables (Err Memory)

-- what a call comes to, or its refusal
abbrev pub CallResult : Type 0
CallResult = Result CallOutcome Refusal

-- the text of a reply, or the refusal
abbrev pub text_of : CallResult → Result (List ℕ) Refusal
text_of (Ok c) = Ok c.text
text_of (Err r) = Err r

-- what a call adds to the data: a refused one nothing
abbrev pub effects_in : CallResult → List Effect
effects_in (Ok c) = c.effects
effects_in (Err r) = []
