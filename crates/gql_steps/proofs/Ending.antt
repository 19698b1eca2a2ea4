-- What an execution comes to as a whole.
use Rattle.std.specs.Result.{IfOk, IfErr, IsErrAnd}
use Rattle.std.proofs.lemmas.List.{map-append}
use Rattle.std.proofs.Common.{◌≡◌, Result, Ok, Err, ℕ, List, [], ◌∷◌, ◌++◌, map, take, codes, Option, Some, None, refl, sym, ap, subst, ◌∙◌, arith, append_assoc}
use Rattle.gql_ast.specs.declared.definition.Definition.{Definition}
use Rattle.gql_ast.specs.declared.executable.Operation.{Operation}
use Rattle.gql_ast.specs.declared.files.Files.{Files}
use Rattle.gql_coerce.specs.Comes as comes
use Rattle.gql_coerce.specs.Comes.{Outcome as Comes}
use Rattle.gql_coerce.specs.Requests.{VariablesCome}
use Rattle.gql_coerce.specs.declared.refusal.Reason.{Reason}
use Rattle.gql_coerce.specs.declared.refusal.Refusal.{Refusal}
use Rattle.gql_coerce.specs.declared.refusal.Segment.{Segment}
use Rattle.gql_coerce.specs.Laws.{OneOfVariables}
use Rattle.gql_collect.specs.Nodes.{in_file}
use Rattle.gql_facts.specs.declared.fact.FragmentFact.{FragmentFact}
use Rattle.gql_intro.specs.Made.{made_of}
use Rattle.gql_intro.specs.declared.made.IntroSchema.{IntroSchema}
use Rattle.gql_types.specs.Schemas.{schema_of}
use Rattle.gql_types.specs.declared.schema.Schema.{Schema}
use Rattle.serde_json.specs.Data.{Data}
use Rattle.gql_steps.specs.JsonText.{json_text}
use Rattle.gql_stored.specs.Effects.{Effect}
use Rattle.gql_steps.specs.Execution.{answered}
use Rattle.gql_steps.specs.Plans.{IsPlan}
use Rattle.gql_steps.specs.Outcomes.{AnError, AnOutcome, error_of}
use Rattle.gql_steps.specs.Replies.{Reply, kept, or_null}
use Rattle.gql_steps.specs.Requests.{Request, Response, Executes, IsKeptOf, IsOutcome, answer_for, basis_of, IsTooHeavy, refused, executed, request_error, request_of, response_of, variable_at}
use Rattle.gql_steps.specs.Requests as requests
use Rattle.gql_steps.specs.Runs.{Answering, Finishes, IsFresh, IsOutcomeOf, IsRefused, came_to, request}
use Rattle.gql_steps.specs.States.{Done, Leaves, ended_of, errors_of}
use Rattle.gql_steps.specs.States as states
use Rattle.gql_steps.specs.Texts.{outcome_text, value_part}
use Rattle.gql_steps.specs.declared.ended.Ended.{Ended}
use Rattle.gql_steps.specs.declared.ended.Ended.TheVariants.{Written, Bubbled}
use Rattle.gql_steps.specs.declared.outcome.ResponseError.{ResponseError}
use Rattle.gql_steps.specs.declared.run.FieldError.{FieldError}
use Rattle.gql_steps.specs.declared.run.Run.{Run}

-- ---- the text of the data

pub written_data : (o : Option Data) (out : List ℕ) → Leaves (outcome_text json_text o) [] out → Written ≡ ended_of (outcome_text json_text o) → out ≡ json_text (or_null o)
written_data (Some d) out h e = h
written_data None out h e = cc

pub cut_data : (o : Option Data) (before out : List ℕ) → out ≡ take 0 before ++ codes "null" → Bubbled ≡ ended_of (outcome_text json_text o) → out ≡ json_text (or_null o)
cut_data (Some d) before out h e = cc
cut_data None before out h e = h

errors_are : (es : List FieldError) → map requests.error_of (map states.error_of es) ≡ map (λ (e : FieldError). requests.error_of (states.error_of e)) es
errors_are [] = refl
errors_are (e ∷ es) = ap (λ rs. requests.error_of (states.error_of e) ∷ rs) (errors_are es)

same_outcome : (a b : AnOutcome) → a.text ≡ b.text → a.errors ≡ b.errors → a.effects ≡ b.effects → a ≡ b
same_outcome a b t e f = ap (λ x. let o : AnOutcome = record { text = x; errors = a.errors; effects = a.effects } in o) t
    ∙ ap (λ x. let o : AnOutcome = record { text = b.text; errors = x; effects = a.effects } in o) e
    ∙ ap (λ x. let o : AnOutcome = record { text = b.text; errors = b.errors; effects = x } in o) f

-- the outcome of a reply that was executed from the beginning
outcome_is : (r : Reply Data) (e : Ended) (s u : Run) (fx : List Effect) (o : AnOutcome) → IsFresh s → Done (value_part r) e s u
    → o.text ≡ Some (json_text (or_null r.value)) → o.errors ≡ map (λ (x : FieldError). requests.error_of (states.error_of x)) u.errors.items → o.effects ≡ fx → IsOutcomeOf s.left o (answered fx r)
outcome_is r e s u fx o fresh done out errors effects = (
  omega (arith, done.follows.left),
  same_outcome o (response_of (answered fx r)).outcome out
      (errors ∙ sym (errors_are u.errors.items) ∙ ap (map requests.error_of) (done.follows.errors
      ∙ ap (λ es. map states.error_of es ++ kept s.raised r.notes) fresh.errors ∙ ap (λ b. kept b r.notes) fresh.raised)) effects,
)

pub finished_written : (u : Run) (fx : List Effect) (o : AnOutcome) → o ≡ came_to u fx → Finishes Written u fx o
finished_written u fx o is = λ r s fresh done. outcome_is r Written s u fx o fresh done
    (ap (λ (x : AnOutcome). x.text) is ∙ ap Some (written_data r.value u.out.items (subst (λ l. Leaves (outcome_text json_text r.value) l u.out.items) fresh.out done.follows.out) done.ends))
    (ap (λ (x : AnOutcome). x.errors) is) (ap (λ (x : AnOutcome). x.effects) is)

pub finished_cut : (u v : Run) (fx : List Effect) (o : AnOutcome) → v.out.items ≡ take 0 u.out.items ++ codes "null" → v ≡ record u { out = v.out } → o ≡ came_to v fx → Finishes Bubbled u fx o
finished_cut u v fx o cut rest is = λ r s fresh done. outcome_is r Bubbled s u fx o fresh done
    (ap (λ (x : AnOutcome). x.text) is ∙ ap Some (cut_data r.value u.out.items v.out.items cut done.ends))
    (ap (λ (x : AnOutcome). x.errors) is ∙ ap (λ (x : Run). map (λ (e : FieldError). requests.error_of (states.error_of e)) x.errors.items) rest)
    (ap (λ (x : AnOutcome). x.effects) is)

-- ---- requests

pub first_same : {a b : Reason} {p q : List Segment} → ◌≡◌ {A = Comes Data} (comes.refused a p) (comes.refused b q) → a ≡ b
first_same e = cc

pub path_same : {a b : Reason} {p q : List Segment} → ◌≡◌ {A = Comes Data} (comes.refused a p) (comes.refused b q) → p ≡ q
path_same e = cc

pub value_same : {d e : Data} → comes.value d ≡ comes.value e → d ≡ e
value_same h = cc

-- a request whose variables have values
pub answers : (r : Request) (values : Data) (Holds : Response → Type 0) → OneOfVariables → VariablesCome r.schema r.operation.variables r.variables (comes.value values)
    → Answering (basis_of r values) r.file r.operation r.stored (λ a. Holds (response_of a))
    → (p : Response) → Executes r p → Holds p
answers r values Holds one come h p (refused {why} {path} {v} c at) =
    let e : comes.value values ≡ comes.refused why path = one r.schema r.operation.variables r.variables (comes.value values) (comes.refused why path) come c in absurd (cc e)
answers r values Holds one come h p (executed {values = others} {root = root} x c is object plans) =
    let e : comes.value values ≡ comes.value others = one r.schema r.operation.variables r.variables (comes.value values) (comes.value others) come c in
    subst (λ d. Holds (response_of (answer_for r.operation.kind (basis_of r d) x root.name.node.text r.stored))) (value_same e)
    (h root x is object (subst (λ d. IsPlan (basis_of r d) root.name.node.text (in_file r.file r.operation.selections) x) (sym (value_same e)) plans))

-- a request with a variable that is refused
pub answers_refused : (most : ℕ) (r : Request) (f : Refusal) (o : AnOutcome) → OneOfVariables → VariablesCome r.schema r.operation.variables r.variables (comes.refused f.reason f.path)
    → IsRefused r.operation.variables f o → IsOutcome most r o
answers_refused most r f o one come h p (refused {why} {path} {v} c at) =
    let e : comes.refused f.reason f.path ≡ comes.refused why path = one r.schema r.operation.variables r.variables (comes.refused f.reason f.path) (comes.refused why path) come c in (
      omega arith,
      h v (ap (variable_at r.operation.variables) (path_same e) ∙ at)
          ∙ ap (λ b. (request_error v b f.path).outcome) (first_same e) ∙ ap (λ q. (request_error v why q).outcome) (path_same e),
    )
answers_refused most r f o one come h p (executed {values = others} {root = root} x c is object plans) =
    let e : comes.refused f.reason f.path ≡ comes.value others = one r.schema r.operation.variables r.variables (comes.refused f.reason f.path) (comes.value others) come c in absurd (cc e)

-- ---- results

pub ok_then : {A E : Type 0} (result : Result A E) (P Q : A → Type 0) → ((a : A) → P a → Q a) → IfOk result P → IfOk result Q
ok_then (Ok a) P Q f h = f a h
ok_then (Err e) P Q f h = tt

pub err_then : {A E : Type 0} (result : Result A E) (P Q : E → Type 0) → ((e : E) → P e → Q e) → IfErr result P → IfErr result Q
err_then (Ok a) P Q f h = tt
err_then (Err e) P Q f h = f e h

pub err_is : {A E : Type 0} (result : Result A E) (stop : E) → IsErrAnd result (λ e. e ≡ stop) → (Q : E → Type 0) → Q stop → IfErr result Q
err_is (Ok a) stop h Q q = tt
err_is (Err e) stop h Q q = subst Q (sym h) q

-- ---- errors, one by one

pub next_error : (all new : List ResponseError) (rest more : List FieldError) (e : FieldError) (x : ResponseError) (fs : List AnError)
    → map error_of all ++ map (λ (y : FieldError). requests.error_of (states.error_of y)) rest ≡ fs → rest ≡ e ∷ more → new ≡ all ++ x ∷ [] → error_of x ≡ requests.error_of (states.error_of e)
    → map error_of new ++ map (λ (y : FieldError). requests.error_of (states.error_of y)) more ≡ fs
next_error all new rest more e x fs inv step pushed same =
    let f : FieldError → AnError = λ (y : FieldError). requests.error_of (states.error_of y) in
    ap (λ xs. map error_of xs ++ map f more) pushed ∙ ap (λ l. l ++ map f more) (map-append error_of all (x ∷ []))
    ∙ append_assoc (map error_of all) (error_of x ∷ []) (map f more)
    ∙ ap (λ y. map error_of all ++ y ∷ map f more) same ∙ ap (λ l. map error_of all ++ map f l) (sym step) ∙ inv

-- ---- files

-- the request of what is kept of files is that of the files
pub by_files : (files : Files) (d : Definition) (operation : Operation) (s : Schema) (m : IntroSchema) (fs : List FragmentFact) (variables stored : Data) → IsKeptOf files s m fs
    → request s m fs d.file operation variables stored ≡ request_of files d operation variables stored
by_files files d operation s m fs variables stored kept = ap (λ x. request x m fs d.file operation variables stored) kept.schema
    ∙ ap (λ x. request (schema_of files) x fs d.file operation variables stored) kept.made
    ∙ ap (λ x. request (schema_of files) (made_of files (schema_of files)) x d.file operation variables stored) kept.fragments
