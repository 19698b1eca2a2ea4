-- A request has one response.
use Rattle.std.proofs.Common.{◌≡◌, ℕ, ◌+◌, List, [], ◌∷◌, ◌++◌, true, codes, Option, Some, None, is_some, refl, sym, ap, ◌∙◌, subst, if◌then◌else◌, inl, inr}
use Rattle.gql_coerce.specs.Comes as comes
use Rattle.gql_coerce.specs.Comes.{Outcome}
use Rattle.gql_coerce.specs.Laws.{OneOfArguments, OneOfVariables}
use Rattle.gql_coerce.specs.Requests.{ArgumentsCome}
use Rattle.gql_collect.specs.Collection.{selections_below}
use Rattle.gql_collect.specs.Groups.{Group}
use Rattle.gql_collect.specs.Laws.{OneCollection}
use Rattle.gql_collect.specs.Nodes.{FieldNode, FileSelection, in_file}
use Rattle.gql_inputs.specs.InputTypes.{name_in}
use Rattle.gql_intro.specs.Nodes as intro
use Rattle.gql_intro.specs.Nodes.{query_root}
use Rattle.gql_text.specs.declared.place.Place.{Place}
use Rattle.gql_ast.specs.declared.executable.OperationKind.{OperationKind}
use Rattle.gql_ast.specs.declared.executable.OperationKind.TheVariants as operation
use Rattle.gql_types.specs.Schemas.{append_of}
use Rattle.gql_types.specs.Written.{Written, named, listed, required}
use Rattle.gql_types.specs.declared.kind.TypeKind.{TypeKind}
use Rattle.gql_types.specs.declared.kind.TypeKind.TheVariants as kind
use Rattle.gql_types.specs.declared.roots.Root.{Root}
use Rattle.serde_json.specs.Data as json
use Rattle.serde_json.specs.Data.{Data}
use Rattle.serde_json.specs.Find.{get}
use Rattle.serde_json.specs.View.{items_of}
use Rattle.gql_steps.specs.Execution.{Appending, each_root, effect_of, effects_of, execute_root, mutation_answer, root_value, under_name, Arguments, given, refused, Object, stored, described, answering, by_source, list_reply, on_answer, on_node, Below, Fields, no_fields, field, Plan, plan, PlannedField, Site, Types, among, answered, complete, each, execute, executed, fault, items_from, is_null, leaf, members_of, of_kind, on_abstract, on_list, on_object, placed, value_of}
use Rattle.gql_stored.specs.Effects.{list_named}
use Rattle.gql_steps.specs.declared.planning.Source.{Source}
use Rattle.gql_steps.specs.declared.planning.Source.TheVariants as source
use Rattle.gql_steps.specs.Leaves.{as_enum, scalar_value}
use Rattle.gql_steps.specs.Plans.{Basis, FieldOf, field_of, ArePlanned, IsPlan, IsPlanned, defined, is_met, is_met_by, planned, types_of}
use Rattle.gql_steps.specs.Replies.{Path, index, key, Reply, all, counted, mapped, returns, settled}
use Rattle.gql_steps.specs.Requests.{Executes, Request, answer_for, basis_of, Response, initial_value, request_error, response_of, variable_at}
use Rattle.gql_steps.specs.Requests as requests
use Rattle.gql_steps.specs.Resolution.{list_of, resolved}
use Rattle.gql_steps.proofs.Executing.{among_is, met_itself, met_possible, met_self}
use Rattle.gql_steps.proofs.Ending.{first_same, path_same, value_same}
use Rattle.gql_steps.proofs.Grouped.{same_first, same_some}

-- ---- values, where two agree on what is below

items_alike : {A : Type 0} (e f : Path → A → Reply Data) → ((p : Path) (d : A) → e p d ≡ f p d) → (i : ℕ) (p : Path) (ds : List A) → items_from e i p ds ≡ items_from f i p ds
items_alike e f same i p [] = refl
items_alike e f same i p (d ∷ ds) = ap (λ r. counted r ∷ items_from e (i + 1) p ds) (same (p ++ index i ∷ []) d)
    ∙ ap (λ rs. counted (f (p ++ index i ∷ []) d) ∷ rs) (items_alike e f same (i + 1) p ds)

reply_alike : {A : Type 0} (e f : Path → A → Reply Data) → ((p : Path) (x : A) → e p x ≡ f p x) → (p : Path) (xs : List A) → list_reply e p xs ≡ list_reply f p xs
reply_alike e f same p xs = ap (λ rs. mapped (λ ds. json.array (items_of ds)) (all rs)) (items_alike e f same 0 p xs)

list_alike : (s u : Site) → s.place ≡ u.place → (e f : Path → Data → Reply Data) → ((p : Path) (d : Data) → e p d ≡ f p d) → (p : Path) (d : Data) → on_list s e p d ≡ on_list u f p d
list_alike s u at e f same p json.null = ap (λ (x : Place). let v : Site = record s { place = x } in fault v p (codes "value is not a list")) at
list_alike s u at e f same p (json.boolean b) = ap (λ (x : Place). let v : Site = record s { place = x } in fault v p (codes "value is not a list")) at
list_alike s u at e f same p (json.number n) = ap (λ (x : Place). let v : Site = record s { place = x } in fault v p (codes "value is not a list")) at
list_alike s u at e f same p (json.string t) = ap (λ (x : Place). let v : Site = record s { place = x } in fault v p (codes "value is not a list")) at
list_alike s u at e f same p (json.array ds) = reply_alike e f same p (list_of ds)
list_alike s u at e f same p (json.object ms) = ap (λ (x : Place). let v : Site = record s { place = x } in fault v p (codes "value is not a list")) at

-- the place of a field, and what is below for two plans
abbrev site : Types → Place → Below → Site
site types place a = record { types = types; place = place; below = a }

-- they agree on the objects that may be met
abbrev Alike : Types → List ℕ → Option TypeKind → Below → Below → Type 0
Alike types n k a b = (m : List ℕ) → is_met_by types m n k ≡ true → (p : Path) (o : Object) → a m p o ≡ b m p o

module _ (types : Types) (place : Place) (a b : Below) where
  leaf_alike : (n : List ℕ) (p : Path) (o : Option Data) → leaf (site types place a) n p o ≡ leaf (site types place b) n p o
  leaf_alike n p (Some d) = refl
  leaf_alike n p None = refl

  object_alike : (n : List ℕ) (p : Path) (d : Data) → ((q : Path) (o : Object) → a n q o ≡ b n q o) → on_object (site types place a) n p d ≡ on_object (site types place b) n p d
  object_alike n p json.null h = refl
  object_alike n p (json.boolean x) h = refl
  object_alike n p (json.number x) h = refl
  object_alike n p (json.string x) h = refl
  object_alike n p (json.array ds) h = refl
  object_alike n p (json.object ms) h = h p (stored (json.object ms))

  abstract_alike : (n : List ℕ) (p : Path) (d : Data) (o : Option (List ℕ)) → ((m : List ℕ) → o ≡ Some m → a m p (stored d) ≡ b m p (stored d))
      → on_abstract (site types place a) n p d o ≡ on_abstract (site types place b) n p d o
  abstract_alike n p d (Some m) h = h m refl
  abstract_alike n p d None h = refl

  kind_alike : (n : List ℕ) (p : Path) (d : Data) (k : Option TypeKind) → Alike types n k a b → of_kind (site types place a) n p d k ≡ of_kind (site types place b) n p d k
  kind_alike n p d (Some kind.Scalar) h = leaf_alike n p (scalar_value n d)
  kind_alike n p d (Some kind.Enum) h = leaf_alike n p (as_enum (types.values n) d)
  kind_alike n p d (Some kind.Object) h = object_alike n p d (h n (met_self types n (Some kind.Object)))
  kind_alike n p d (Some kind.Interface) h = abstract_alike n p d (among (types.possible n) (get (codes "__typename") d))
      (λ m e. h m (met_possible types m n (Some kind.Interface) (inl refl) (among_is (types.possible n) (get (codes "__typename") d) m e)) p (stored d))
  kind_alike n p d (Some kind.Union) h = abstract_alike n p d (among (types.possible n) (get (codes "__typename") d))
      (λ m e. h m (met_possible types m n (Some kind.Union) (inr refl) (among_is (types.possible n) (get (codes "__typename") d) m e)) p (stored d))
  kind_alike n p d (Some kind.InputObject) h = refl
  kind_alike n p d None h = refl

  complete_alike : (t : Written) → Alike types (name_in t) (types.kind (name_in t)) a b → (p : Path) (d : Data) → complete (site types place a) t p d ≡ complete (site types place b) t p d
  complete_alike (named n) h p d = ap (λ r. if is_null d then returns json.null else r) (kind_alike n p d (types.kind n) h)
  complete_alike (listed t) h p d = ap (λ r. if is_null d then returns json.null else r)
      (list_alike (site types place a) (site types place b) refl (λ q x. placed t (complete (site types place a) t q x)) (λ q x. placed t (complete (site types place b) t q x))
      (λ q x. ap (placed t) (complete_alike t h q x)) p d)
  complete_alike (required t) h p d = ap (λ r. if is_null d then fault (site types place a) p (codes "null for a Non-Null type") else r) (complete_alike t h p d)

  answer_alike : (t : Written) → Alike types (name_in t) (types.kind (name_in t)) a b → (p : Path) (x : Option intro.Answer) → on_answer (site types place a) t p x ≡ on_answer (site types place b) t p x
  answer_alike t h p None = complete_alike t h p json.null
  answer_alike t h p (Some intro.null) = complete_alike t h p json.null
  answer_alike t h p (Some (intro.text x)) = refl
  answer_alike t h p (Some (intro.truth x)) = refl
  answer_alike t h p (Some (intro.enum_name x)) = refl
  answer_alike t h p (Some (intro.enum_names xs)) = refl
  answer_alike t h p (Some (intro.node m)) = h (name_in t) (met_self types (name_in t) (types.kind (name_in t))) p (described m)
  answer_alike t h p (Some (intro.nodes ms)) = reply_alike (on_node (site types place a) (name_in t)) (on_node (site types place b) (name_in t))
      (λ q m. h (name_in t) (met_self types (name_in t) (types.kind (name_in t))) q (described m)) p ms

module _ (types : Types) (f : PlannedField) (a b : Below) (h : Alike types (name_in f.of_type) (types.kind (name_in f.of_type)) a b) where
  named_alike : (p : Path) (x : Option intro.Answer) → on_answer (site types f.place a) f.of_type p x ≡ on_answer (site types f.place b) f.of_type p x
  named_alike p x = answer_alike types f.place a b f.of_type h p x

  source_alike : (from : Source) (x : Data) (p : Path) (d : Data) → by_source (site types f.place a) f from x p d ≡ by_source (site types f.place b) f from x p d
  source_alike source.Stored x p d = complete_alike types f.place a b f.of_type h p (resolved f.name f.of_type x d)
  source_alike (source.TypeName t) x p d = refl
  source_alike source.Root x p d = named_alike p (types.introspect query_root f.name x)

  value_alike : (arguments : Arguments) (p : Path) (o : Object) → value_of (site types f.place a) f arguments p o ≡ value_of (site types f.place b) f arguments p o
  value_alike (given x) p (stored d) = source_alike f.source x p d
  value_alike (given x) p (described n) = named_alike p (types.introspect (answering f.source n) f.name x)
  value_alike (refused m) p o = refl

  root_alike : (d : Data) (l : Option (List ℕ)) (arguments : Arguments) (p : Path) (o : Object) → root_value (site types f.place a) d f l arguments p o ≡ root_value (site types f.place b) d f l arguments p o
  root_alike d (Some to) (given x) p o = ap (λ r. if is_some (list_named to d) then r else fault (site types f.place a) p (codes "no list named " ++ to))
      (complete_alike types f.place a b f.of_type h p x)
  root_alike d (Some to) (refused m) p o = refl
  root_alike d None x p o = value_alike x p o

executed_alike : (types : Types) (f : PlannedField) (a b : Below) → Alike types (name_in f.of_type) (types.kind (name_in f.of_type)) a b → (p : Path) (d : Object)
    → executed types f a p d ≡ executed types f b p d
executed_alike types f a b h p d = ap (λ r. mapped (λ v. (f.response_name, v)) (counted (settled (placed f.of_type r))))
    (value_alike types f a b h f.arguments (p ++ key f.response_name ∷ []) d)

-- ---- plans

module _ (collection : OneCollection) (of_arguments : OneOfArguments) (g : Basis) where
  planned_one : (t : List ℕ) (group : Group) (f e : PlannedField) → IsPlanned g t group f → IsPlanned g t group e → f ≡ e
  planned_one t group f e h k =
      let n : h.first ≡ k.first = same_first h.first k.first h.others k.others (sym h.nodes ∙ k.nodes) in
      let d : h.field ≡ k.field = same_some h.field k.field (sym h.defined ∙ ap (λ (m : FieldNode). field_of g t m.field.name.text) n ∙ k.defined) in
      let come : ArgumentsCome g.given.schema k.field.definition.arguments k.first.field.arguments g.given.values h.arguments =
      subst (λ (x : FieldOf). ArgumentsCome g.given.schema x.definition.arguments k.first.field.arguments g.given.values h.arguments) d
      (subst (λ (m : FieldNode). ArgumentsCome g.given.schema h.field.definition.arguments m.field.arguments g.given.values h.arguments) n h.comes) in
      let o : h.arguments ≡ k.arguments = of_arguments g.given.schema k.field.definition.arguments k.first.field.arguments g.given.values h.arguments k.arguments come k.comes in
      h.is ∙ ap (λ m. planned group m h.field h.arguments) n ∙ ap (λ (x : FieldOf). planned group k.first x h.arguments) d
      ∙ ap (planned group k.first k.field) o ∙ sym k.is

  mutual
    plans_alike : (name : List ℕ) (xs : List FileSelection) (x y : Plan) → IsPlan g name xs x → IsPlan g name xs y → (t : List ℕ) → is_met g t name ≡ true → (p : Path) (d : Object)
        → execute (types_of g) x t p d ≡ execute (types_of g) y t p d
    plans_alike name xs (plan a) (plan b) h k t met p d =
        let u = h t met in
        let v = k t met in
        let same : u.0 ≡ v.0 = collection g.given t xs u.0 v.0 u.1 v.1 in
        ap (λ rs. mapped (λ ms. json.object (members_of ms)) (all rs)) (fields_alike t (defined g t v.0) (a t) (b t)
        (subst (λ gs. ArePlanned g t (defined g t gs) (a t)) same u.2) v.2 p d)

    fields_alike : (t : List ℕ) (groups : List Group) (fs es : Fields) → ArePlanned g t groups fs → ArePlanned g t groups es → (p : Path) (d : Object)
        → each (types_of g) fs p d ≡ each (types_of g) es p d
    fields_alike t [] no_fields no_fields h k p d = refl
    fields_alike t [] no_fields (field e under more) h k p d = absurd k
    fields_alike t [] (field f below rest) es h k p d = absurd h
    fields_alike t (group ∷ groups) no_fields es h k p d = absurd h
    fields_alike t (group ∷ groups) (field f below rest) no_fields h k p d = absurd k
    fields_alike t (group ∷ groups) (field f below rest) (field e under more) h k p d =
        let types = types_of g in
        let same : f ≡ e = planned_one t group f e h.0 k.0 in
        let alike : Alike types (name_in e.of_type) (types.kind (name_in e.of_type)) (execute types below) (execute types under) =
        plans_alike (name_in e.of_type) (selections_below group.nodes) below under (subst (λ (q : PlannedField). IsPlan g (name_in q.of_type) (selections_below group.nodes) below) same h.1) k.1 in
        ap (λ (q : PlannedField). executed types q (execute types below) p d ∷ each types rest p d) same
        ∙ ap (λ r. r ∷ each types rest p d) (executed_alike types e (execute types below) (execute types under) alike p d)
        ∙ ap (λ rs. executed types e (execute types under) p d ∷ rs) (fields_alike t groups rest more h.2 k.2 p d)

  roots_alike : (appending : Appending) (s : Data) (t : List ℕ) (groups : List Group) (fs es : Fields) → ArePlanned g t groups fs → ArePlanned g t groups es → (p : Path) (o : Object)
      → (each_root (types_of g) appending s fs p o ≡ each_root (types_of g) appending s es p o) × (effects_of appending s fs ≡ effects_of appending s es)
  roots_alike appending s t [] no_fields no_fields h k p o = (refl, refl)
  roots_alike appending s t [] no_fields (field e under more) h k p o = absurd k
  roots_alike appending s t [] (field f below rest) es h k p o = absurd h
  roots_alike appending s t (group ∷ groups) no_fields es h k p o = absurd h
  roots_alike appending s t (group ∷ groups) (field f below rest) no_fields h k p o = absurd k
  roots_alike appending s t (group ∷ groups) (field f below rest) (field e under more) h k p o =
      let types = types_of g in
      let same : f ≡ e = planned_one t group f e h.0 k.0 in
      let alike : Alike types (name_in e.of_type) (types.kind (name_in e.of_type)) (execute types below) (execute types under) =
      plans_alike (name_in e.of_type) (selections_below group.nodes) below under (subst (λ (q : PlannedField). IsPlan g (name_in q.of_type) (selections_below group.nodes) below) same h.1) k.1 in
      let others = roots_alike appending s t groups rest more h.2 k.2 p o in
      let one : PlannedField → Below → Reply (List ℕ × Data) = λ q x. under_name q (root_value (site types q.place x) s q (appending q.name) q.arguments (p ++ key q.response_name ∷ []) o) in (
        ap (λ (q : PlannedField). one q (execute types below) ∷ each_root types appending s rest p o) same
            ∙ ap (λ r. under_name e r ∷ each_root types appending s rest p o) (root_alike types e (execute types below) (execute types under) alike s (appending e.name) e.arguments (p ++ key e.response_name ∷ []) o)
            ∙ ap (λ rs. one e (execute types under) ∷ rs) others.0,
        ap (λ (q : PlannedField). effect_of s (appending q.name) q.arguments ++ effects_of appending s rest) same
            ∙ ap (λ xs. effect_of s (appending e.name) e.arguments ++ xs) others.1,
      )

  mutations_alike : (xs : List FileSelection) (x y : Plan) (t : List ℕ) → IsPlan g t xs x → IsPlan g t xs y → (appending : Appending) (s d : Data)
      → mutation_answer (types_of g) appending x t s d ≡ mutation_answer (types_of g) appending y t s d
  mutations_alike xs (plan a) (plan b) t h k appending s d =
      let u = h t (met_itself g t) in
      let v = k t (met_itself g t) in
      let same : u.0 ≡ v.0 = collection g.given t xs u.0 v.0 u.1 v.1 in
      let both = roots_alike appending s t (defined g t v.0) (a t) (b t) (subst (λ gs. ArePlanned g t (defined g t gs) (a t)) same u.2) v.2 [] (stored d) in
      ap (λ es. answered es (execute_root (types_of g) appending (plan a) t s [] (stored d))) both.1
      ∙ ap (λ rs. answered (effects_of appending s (b t)) (mapped (λ ms. json.object (members_of ms)) (all rs))) both.0

  answers_alike : (k : OperationKind) (xs : List FileSelection) (x y : Plan) (t : List ℕ) → IsPlan g t xs x → IsPlan g t xs y → (s : Data) → answer_for k g x t s ≡ answer_for k g y t s
  answers_alike operation.Query xs x y t h i s = ap (answered []) (plans_alike t xs x y h i t (met_itself g t) [] (stored (initial_value operation.Query s)))
  answers_alike operation.Mutation xs x y t h i s = mutations_alike xs x y t h i (append_of g.given.schema t) s (initial_value operation.Mutation s)
  answers_alike operation.Subscription xs x y t h i s = ap (answered []) (plans_alike t xs x y h i t (met_itself g t) [] (stored (initial_value operation.Subscription s)))

-- ---- requests

pub alone : OneCollection → OneOfArguments → OneOfVariables → (r : Request) (p q : Response) → Executes r p → Executes r q → p ≡ q
alone collection of_arguments of_variables r p q (requests.refused {why} {path} {v} c at) (requests.refused {why = other} {path = others} {v = w} k there) =
    let e : comes.refused why path ≡ comes.refused other others = of_variables r.schema r.operation.variables r.variables (comes.refused why path) (comes.refused other others) c k in
    ap (request_error v why) (path_same e) ∙ ap (λ y. request_error v y others) (first_same e)
    ∙ ap (λ y. request_error y other others) (same_some v w (sym at ∙ ap (variable_at r.operation.variables) (path_same e) ∙ there))
alone collection of_arguments of_variables r p q (requests.refused {why} {path} {v} c at) (requests.executed {values} {root} x k is object plans) =
    let e : comes.refused why path ≡ comes.value values = of_variables r.schema r.operation.variables r.variables (comes.refused why path) (comes.value values) c k in absurd (cc e)
alone collection of_arguments of_variables r p q (requests.executed {values} {root} x k is object plans) (requests.refused {why} {path} {v} c at) =
    let e : comes.refused why path ≡ comes.value values = of_variables r.schema r.operation.variables r.variables (comes.refused why path) (comes.value values) c k in absurd (cc e)
alone collection of_arguments of_variables r p q (requests.executed {values} {root} x c is object plans) (requests.executed {values = others} {root = other} y k there kind_is planned) =
    let e : comes.value values ≡ comes.value others = of_variables r.schema r.operation.variables r.variables (comes.value values) (comes.value others) c k in
    let same : root ≡ other = same_some root other (sym is ∙ there) in
    let g : Basis = basis_of r others in
    let here : IsPlan g other.name.node.text (in_file r.file r.operation.selections) x =
    subst (λ (m : Root). IsPlan g m.name.node.text (in_file r.file r.operation.selections) x) same
    (subst (λ d. IsPlan (basis_of r d) root.name.node.text (in_file r.file r.operation.selections) x) (value_same e) plans) in
    ap (λ d. response_of (answer_for r.operation.kind (basis_of r d) x root.name.node.text r.stored)) (value_same e)
    ∙ ap (λ (m : Root). response_of (answer_for r.operation.kind g x m.name.node.text r.stored)) same
    ∙ ap response_of (answers_alike collection of_arguments g r.operation.kind (in_file r.file r.operation.selections) x y other.name.node.text here planned r.stored)
