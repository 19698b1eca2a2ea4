-- A request has a response.
use Rattle.std.proofs.Common.{◌≡◌, ℕ, List, [], ◌∷◌, Bool, true, false, find, bytes_eq, Some, Contains, refl, sym, ap, ◌∙◌, subst, inl, inr}
use Rattle.std.proofs.lemmas.Slice.Eq.{bytes_eq-Decides}
use Rattle.gql_ast.specs.declared.executable.Selection.{Selection}
use Rattle.gql_ast.specs.declared.executable.VariableDefinition.{VariableDefinition}
use Rattle.gql_coerce.specs.Comes.{Outcome}
use Rattle.gql_coerce.specs.Comes as comes
use Rattle.gql_coerce.specs.Laws.{NamedRefusals, SomeOfArguments, SomeOfVariables}
use Rattle.gql_coerce.specs.Requests.{VariablesCome}
use Rattle.gql_coerce.specs.declared.refusal.Reason.{Reason}
use Rattle.gql_coerce.specs.declared.refusal.Segment.{Segment}
use Rattle.gql_coerce.specs.declared.refusal.Segment.TheVariants as segment
use Rattle.gql_collect.specs.Laws.{SomeDepth, SomeGroups}
use Rattle.gql_collect.specs.Nesting.{AllNest, selections_of}
use Rattle.gql_collect.specs.Nodes.{in_file}
use Rattle.gql_facts.specs.ListMembers.{Contains-nil, Contains-cases}
use Rattle.gql_types.specs.Schemas.{kind_named, root_of}
use Rattle.gql_types.specs.declared.kind.TypeKind.TheVariants as kind
use Rattle.gql_types.specs.declared.roots.Root.{Root}
use Rattle.serde_json.specs.Data.{Data}
use Rattle.gql_steps.specs.Execution.{Plan}
use Rattle.gql_exec.specs.Laws.{SomeResponse}
use Rattle.gql_steps.specs.Plans.{IsPlan}
use Rattle.gql_exec.proofs.SomePlan.{some_plan}
use Rattle.gql_steps.specs.Requests.{Request, Response, basis_of, Executes, executed, refused, request_error, variable_at}

-- the first variable of a name
found : (ds : List VariableDefinition) (v : VariableDefinition) → Contains ds v → (w : VariableDefinition) × (find (λ (x : VariableDefinition). bytes_eq v.name.text x.name.text) ds ≡ Some w)
found [] v there = absurd (Contains-nil v there)
found (d ∷ ds) v there = by (bytes_eq v.name.text d.name.text) refl (found ds v) where
  by : (b : Bool) → bytes_eq v.name.text d.name.text ≡ b → (Contains ds v → (w : VariableDefinition) × (find (λ (x : VariableDefinition). bytes_eq v.name.text x.name.text) ds ≡ Some w))
      → (w : VariableDefinition) × (find (λ (x : VariableDefinition). bytes_eq v.name.text x.name.text) (d ∷ ds) ≡ Some w)
  by true is rest = (d, rw is refl)
  by false is rest = elim (Contains-cases v d ds there) [
    | inl e ↦
        let same : bytes_eq v.name.text d.name.text ≡ true = (bytes_eq-Decides v.name.text d.name.text).1 (ap (λ (x : VariableDefinition). x.name.text) e) in
        absurd (not_both (sym is ∙ same))
    | inr h ↦ let f = rest h in (f.0, rw is f.1)
  ] where
    not_both : false ≡ true → ⊥
    not_both e = cc e

at_path : (ds : List VariableDefinition) (path : List Segment) (v : VariableDefinition) (rest : List Segment) → Contains ds v → path ≡ segment.Key v.name.text ∷ rest
    → (w : VariableDefinition) × (variable_at ds path ≡ Some w)
at_path ds path v rest there is = let f = found ds v there in (f.0, ap (variable_at ds) is ∙ f.1)

-- by the outcome of its variables, and a plan for each value of theirs
of_outcome : (r : Request)
    → (o : Outcome Data) → VariablesCome r.schema r.operation.variables r.variables o
    → ((why : Reason) (path : List Segment) → o ≡ comes.refused why path → (v : VariableDefinition) × Contains r.operation.variables v × ((rest : List Segment) × (path ≡ segment.Key v.name.text ∷ rest)))
    → (root : Root) → root_of r.schema r.operation.kind ≡ Some root → kind_named r.schema root.name.node.text ≡ Some kind.Object
    → ((values : Data) → (x : Plan) × IsPlan (basis_of r values) root.name.node.text (in_file r.file r.operation.selections) x)
    → (p : Response) × Executes r p
of_outcome r (comes.value values) come named root is object plans =
    let x = plans values in (_, executed x.0 come is object x.1)
of_outcome r (comes.refused why path) come named root is object plans =
    let n = named why path refl in
    let v = at_path r.operation.variables path n.0 n.2.0 n.1 n.2.1 in
    (request_error v.0 why path, refused come v.1)

-- ---- the plan

-- the selections of a set in a file are those of the set
in_file_are : (file : List ℕ) (xs : List Selection) → selections_of (in_file file xs) ≡ xs
in_file_are file [] = refl
in_file_are file (x ∷ xs) = ap (λ ys. x ∷ ys) (in_file_are file xs)

pub some_response : SomeDepth → SomeGroups → SomeOfVariables → SomeOfArguments → NamedRefusals → SomeResponse
some_response depth nested variables arguments named r root no_cycle is object none =
    let come = variables r.schema no_cycle r.operation.variables r.variables in
    of_outcome r come.0 come.1
    (λ why path e. named r.schema r.operation.variables r.variables why path (subst (VariablesCome r.schema r.operation.variables r.variables) e come.1))
    root is object plan_of
  where
    plan_of : (values : Data) → (x : Plan) × IsPlan (basis_of r values) root.name.node.text (in_file r.file r.operation.selections) x
    plan_of values =
        let g = basis_of r values in
        let deep = depth g.given r.operation.selections (none values) in
        let p = some_plan g (λ definitions given. arguments r.schema no_cycle definitions given values) (nested g.given)
        deep.0 root.name.node.text (in_file r.file r.operation.selections)
        (subst (AllNest g.given deep.0) (sym (in_file_are r.file r.operation.selections)) deep.1) in
        (p.x, p.is)
