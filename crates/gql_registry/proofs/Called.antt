-- Calls of operations that no fault stands against.
use Rattle.std.proofs.Common.{◌≡◌, ◌∙◌, inl, inr, Bool, true, false, List, [], ◌∷◌, flat_map, find, bytes_eq, Option, Some, None, option_map, Contains, ℕ, Result, Ok, Err, IfOk, IfErr, refl, sym, ap, subst}
use Rattle.std.specs.Result.{IsErrAnd}
use Rattle.gql_ast.specs.declared.definition.Definition.{Definition}
use Rattle.gql_ast.specs.declared.definition.Document.{Document}
use Rattle.gql_ast.specs.declared.definition.Tree.{Tree}
use Rattle.gql_ast.specs.declared.definition.Tree.TheVariants as tree
use Rattle.gql_ast.specs.declared.executable.Operation.{Operation}
use Rattle.gql_ast.specs.declared.executable.OperationKind.{OperationKind}
use Rattle.gql_ast.specs.declared.executable.OperationKind.TheVariants as kinds
use Rattle.gql_ast.specs.declared.fault.Fault.{Fault}
use Rattle.gql_ast.specs.declared.files.Files.{Files}
use Rattle.gql_ast.specs.declared.text.Name.{Name}
use Rattle.gql_steps.specs.Requests.{Executes, Response, request_of}
use Rattle.gql_facts.specs.ListMembers.{Contains-nil, Contains-here, Contains-cases, Contains-flat_map, Contains-flat_map_from, found_in}
use Rattle.gql_registry.specs.Chosen.{chosen, operations, named_operations, operation_in, operation_by, named_in, named_of, named_by, only}
use Rattle.gql_registry.specs.Chosen.{NamedOperation}
use Rattle.gql_serving.specs.Laws.{SomeAnswer, NoSubscriptions, HasNoFault}
use Rattle.gql_registry.specs.Calling.{IsOver, IsOutcomeOf, TellsRun}
use Rattle.gql_registry.specs.Calls.{AreAgainst, Answers, IsResponse, StandsAgainst, of_schema, of_documents, not_run, too_large, served, memory}
use Rattle.gql_registry.specs.Laws.{AllAreRun}
use Rattle.gql_registry.specs.Prepared.{outcome_of, prepared_of, ran_of}
use Rattle.gql_registry.specs.declared.runs.Prepared.{Prepared}
use Rattle.gql_registry.specs.Report.{IsSound}
use Rattle.gql_registry.specs.Report as report
use Rattle.gql_registry.specs.Runs.{is_run}
use Rattle.gql_registry.specs.declared.refusal.Refusal.{Refusal}
use Rattle.gql_registry.specs.declared.refusal.Refusal.TheVariants as refusal
use Rattle.gql_registry.specs.declared.calling.Ran.{Ran}
use Rattle.gql_verdict.specs.Definitions.{all_definitions}
use Rattle.serde_json.specs.Data.{Data}

-- ---- the operation that is called

-- an operation among these definitions
pub record IsOperationIn (ds : List Definition) (d : Definition) : Type 0 where
  pub operation : Operation
  pub is : d.tree ≡ tree.Operation operation
  pub there : Contains ds d

-- the definition itself, if it is an operation
record IsOperation (x d : Definition) (t : Tree) : Type 0 where
  same : d ≡ x
  operation : Operation
  is : t ≡ tree.Operation operation

only_one : {A : Type 0} (x y : A) → Contains (x ∷ []) y → y ≡ x
only_one x y h = elim (Contains-cases y x [] h) [
  | inl e ↦ e
  | inr n ↦ absurd (Contains-nil y n)
]

operation_from : (x d : Definition) (t : Tree) → Contains (operation_by x t) d → IsOperation x d t
operation_from x d (tree.Operation o) h = record { same = only_one x d h; operation = o; is = refl }
operation_from x d (tree.Fragment f) h = absurd (Contains-nil d h)
operation_from x d (tree.Schema f) h = absurd (Contains-nil d h)
operation_from x d (tree.Type f) h = absurd (Contains-nil d h)
operation_from x d (tree.Directive f) h = absurd (Contains-nil d h)
operation_from x d (tree.SchemaExtension f) h = absurd (Contains-nil d h)
operation_from x d (tree.TypeExtension f) h = absurd (Contains-nil d h)

named_by_from : (x : Definition) (n : NamedOperation) (o : Option Name) → Contains (named_by x o) n → n.definition ≡ x
named_by_from x n None h = absurd (Contains-nil n h)
named_by_from x n (Some name) h =
    ap (λ (m : NamedOperation). m.definition) (only_one (record { name = name.text; definition = x }) n h)

named_from : (x : Definition) (n : NamedOperation) (t : Tree) → Contains (named_of x t) n → IsOperation x n.definition t
named_from x n (tree.Operation o) h = record { same = named_by_from x n o.name h; operation = o; is = refl }
named_from x n (tree.Fragment f) h = absurd (Contains-nil n h)
named_from x n (tree.Schema f) h = absurd (Contains-nil n h)
named_from x n (tree.Type f) h = absurd (Contains-nil n h)
named_from x n (tree.Directive f) h = absurd (Contains-nil n h)
named_from x n (tree.SchemaExtension f) h = absurd (Contains-nil n h)
named_from x n (tree.TypeExtension f) h = absurd (Contains-nil n h)

-- it stands in a file
in_files : (documents : List (List ℕ × Document)) (file : List ℕ × Document) (x d : Definition) → Contains documents file → Contains file.1.definitions x → IsOperation x d x.tree
    → IsOperationIn (all_definitions documents) d
in_files documents file x d there inside h = record {
  operation = h.operation;
  is = ap (λ (y : Definition). y.tree) h.same ∙ h.is;
  there = subst (Contains (all_definitions documents)) (sym h.same)
      (Contains-flat_map (λ (f : List ℕ × Document). f.1.definitions) documents file x there inside);
}

of_operations : (documents : List (List ℕ × Document)) (d : Definition) → Contains (operations documents) d → IsOperationIn (all_definitions documents) d
of_operations documents d h =
    let f = Contains-flat_map_from (λ (file : List ℕ × Document). flat_map operation_in file.1.definitions) documents d h in
    let x = Contains-flat_map_from operation_in f.0.1.definitions d f.2 in
    in_files documents f.0 x.0 d f.1 x.1 (operation_from x.0 d x.0.tree x.2)

of_named : (documents : List (List ℕ × Document)) (n : NamedOperation) → Contains (named_operations documents) n → IsOperationIn (all_definitions documents) n.definition
of_named documents n h =
    let f = Contains-flat_map_from (λ (file : List ℕ × Document). flat_map named_in file.1.definitions) documents n h in
    let x = Contains-flat_map_from named_in f.0.1.definitions n f.2 in
    in_files documents f.0 x.0 n.definition f.1 x.1 (named_from x.0 n x.0.tree x.2)

the_only : (ds : List Definition) (d : Definition) → only ds ≡ Some d → Contains ds d
the_only [] d is = absurd (cc is)
the_only (x ∷ []) d is = let same : x ≡ d = cc is in subst (λ y. Contains (x ∷ []) y) same (Contains-here x [])
the_only (x ∷ y ∷ ds) d is = absurd (cc is)

-- the operation that is chosen is one of the files
pub chosen_is : (documents : List (List ℕ × Document)) (name : Option (List ℕ)) (d : Definition) → chosen documents name ≡ Some d → IsOperationIn (all_definitions documents) d
chosen_is documents None d is = of_operations documents d (the_only (operations documents) d is)
chosen_is documents (Some name) d is = by (find passes (named_operations documents)) refl is
  where
    passes : NamedOperation → Bool
    passes o = bytes_eq name o.name

    by : (o : Option NamedOperation) → find passes (named_operations documents) ≡ o → option_map (λ (n : NamedOperation). n.definition) o ≡ Some d → IsOperationIn (all_definitions documents) d
    by None found is = absurd (cc is)
    by (Some n) found is =
        let same : n.definition ≡ d = cc is in
        subst (IsOperationIn (all_definitions documents)) same (of_named documents n (found_in passes (named_operations documents) n found).0)

-- ---- what is answered

-- no fault stands against it
pub none_stands : (files : Files) (d : Definition) (faults : List Fault) → AreAgainst files d faults → faults ≡ [] → (f : Fault) → StandsAgainst files d f → ⊥
none_stands files d faults are none f stands = Contains-nil f (subst (λ xs. Contains xs f) none ((are.1 f).1 stands))

sound : (files : Files) (d : Definition) → ((f : Fault) → StandsAgainst files d f → ⊥) → IsSound files
sound files d none f h = none f (of_schema h)

no_fault : (files : Files) (d : Definition) → ((f : Fault) → StandsAgainst files d f → ⊥) → HasNoFault files d
no_fault files d none x f there h owned =
    none f (of_documents (report.of_definition {d = x} (sound files d none) there h) owned)

-- the operation is run
abbrev AreRun : Definition → Type 0
AreRun d = TellsRun d true

-- a response, where no fault stands against the operation and it is run
record SomeResponse (files : Files) (stored : Data) (name : Option (List ℕ)) (variables : Data) (d : Definition) : Type 0 where
  operation : Operation
  is : d.tree ≡ tree.Operation operation
  response : Response
  executes : Executes (request_of files d operation variables stored) response
  answers : IsResponse files stored name variables response

some_response : SomeAnswer → (files : Files) (stored : Data) (name : Option (List ℕ)) (variables : Data) (d : Definition) → chosen files.documents name ≡ Some d
    → ((f : Fault) → StandsAgainst files d f → ⊥) → AreRun d → SomeResponse files stored name variables d
some_response law files stored name variables d called none run =
    let o = chosen_is files.documents name d called in
    let p = law files d o.operation o.is o.there (sound files d none) (no_fault files d none) variables stored in
    record {
      operation = o.operation;
      is = o.is;
      response = p.0;
      executes = p.1;
      answers = record {
        definition = d;
        operation = o.operation;
        served = record { called = called; operation = o.is; sound = none };
        run = sym (run o.operation o.is);
        executes = p.1;
      };
    }

pub replied : SomeAnswer → (files : Files) (stored : Data) (name : Option (List ℕ)) (variables : Data) (d : Definition) → chosen files.documents name ≡ Some d
    → ((f : Fault) → StandsAgainst files d f → ⊥) → AreRun d → (ran : Ran) → IsOutcomeOf files d variables stored ran → Answers files stored name variables (Ok (outcome_of ran))
replied law files stored name variables d called none run ran is =
    let r = some_response law files stored name variables d called none run in
    let h = is r.operation r.is r.response r.executes in
    subst (λ c. Answers files stored name variables (Ok c)) (sym h.1) (served {p = r.response} r.answers h.0)

pub over : SomeAnswer → (files : Files) (stored : Data) (name : Option (List ℕ)) (variables : Data) (d : Definition) → chosen files.documents name ≡ Some d
    → ((f : Fault) → StandsAgainst files d f → ⊥) → AreRun d → (e : Refusal) → IsOver files d variables stored e → Answers files stored name variables (Err e)
over law files stored name variables d called none run refusal.TooLarge is =
    let r = some_response law files stored name variables d called none run in
    too_large {p = r.response} r.answers (is r.operation r.is r.response r.executes)
over law files stored name variables d called none run refusal.Memory is = memory
over law files stored name variables d called none run (refusal.Syntax number place) is = absurd is
over law files stored name variables d called none run refusal.NotText is = absurd is
over law files stored name variables d called none run refusal.TooLong is = absurd is
over law files stored name variables d called none run refusal.NoFile is = absurd is
over law files stored name variables d called none run refusal.FilesFull is = absurd is
over law files stored name variables d called none run (refusal.Stale revision) is = absurd is
over law files stored name variables d called none run refusal.BadData is = absurd is
over law files stored name variables d called none run refusal.NoOperation is = absurd is
over law files stored name variables d called none run (refusal.Faulty faults) is = absurd is
over law files stored name variables d called none run refusal.NotRun is = absurd is
over law files stored name variables d called none run refusal.Spent is = absurd is

-- either way
pub answered : SomeAnswer → (files : Files) (stored : Data) (name : Option (List ℕ)) (variables : Data) (d : Definition) → chosen files.documents name ≡ Some d
    → ((f : Fault) → StandsAgainst files d f → ⊥) → AreRun d → (r : Result Ran Refusal) → IfOk r (IsOutcomeOf files d variables stored) → IfErr r (IsOver files d variables stored)
    → Answers files stored name variables (ran_of r)
answered law files stored name variables d called none run (Ok ran) ok err = replied law files stored name variables d called none run ran ok
answered law files stored name variables d called none run (Err e) ok err = over law files stored name variables d called none run e err

-- the operation is not run
pub unrun : (files : Files) (stored : Data) (name : Option (List ℕ)) (variables : Data) (d : Definition) → chosen files.documents name ≡ Some d
    → ((f : Fault) → StandsAgainst files d f → ⊥) → TellsRun d false → Answers files stored name variables (Err refusal.NotRun)
unrun files stored name variables d called none tells =
    let o = chosen_is files.documents name d called in
    not_run {d = d} {o = o.operation} (record { called = called; operation = o.is; sound = none }) (sym (tells o.operation o.is))

-- ---- which operations are run

only_subscriptions : (k : OperationKind) → is_run k ≡ false → k ≡ kinds.Subscription
only_subscriptions kinds.Query is = cc
only_subscriptions kinds.Mutation is = cc
only_subscriptions kinds.Subscription is = refl

pub all_are_run : NoSubscriptions → AllAreRun
all_are_run law files stored name variables subscriptions (not_run {d = d} {o = o} s is) =
    law files d o subscriptions s.operation (chosen_is files.documents name d s.called).there (sound files d s.sound) (no_fault files d s.sound)
    (only_subscriptions o.kind is)

-- a call that failed for memory
pub failed : (files : Files) (stored : Data) (name : Option (List ℕ)) (variables : Data) (r : Result Ran Refusal) → IsErrAnd r (λ e. e ≡ refusal.Memory)
    → Answers files stored name variables (ran_of r)
failed files stored name variables (Ok ran) is = absurd is
failed files stored name variables (Err e) is = subst (λ x. Answers files stored name variables (Err x)) (sym is) memory

-- a run that was not prepared, for memory
pub not_prepared : (files : Files) (stored : Data) (name : Option (List ℕ)) (variables : Data) (r : Result Prepared Refusal) → IsErrAnd r (λ e. e ≡ refusal.Memory)
    → Answers files stored name variables (prepared_of r)
not_prepared files stored name variables (Ok p) is = absurd is
not_prepared files stored name variables (Err e) is = subst (λ x. Answers files stored name variables (Err x)) (sym is) memory
