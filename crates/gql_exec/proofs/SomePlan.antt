-- Selections that nest at some depth have a plan.
use Rattle.std.proofs.Common.{◌≡◌, ℕ, zero, suc, List, [], ◌∷◌, Option, Some, None, Contains, refl, sym, ap, ◌∙◌, subst}
use Rattle.gql_ast.specs.declared.executable.Selection.{Selection}
use Rattle.gql_ast.specs.declared.literal.Argument.{Argument}
use Rattle.gql_ast.specs.declared.type_system.InputValueDefinition.{InputValueDefinition}
use Rattle.gql_coerce.specs.Comes.{Outcome}
use Rattle.gql_coerce.specs.Requests.{ArgumentsCome}
use Rattle.gql_collect.specs.Collection.{Collects, selections_below}
use Rattle.gql_collect.specs.Groups.{Group}
use Rattle.gql_collect.specs.Nesting.{AllNest, Nests, NestedGroups, selections_of}
use Rattle.gql_collect.specs.Nodes.{FileSelection, FieldNode}
use Rattle.gql_collect.specs.Unfolding.{nothing}
use Rattle.gql_facts.specs.ListMembers.{Contains-here, Contains-there}
use Rattle.gql_inputs.specs.InputTypes.{name_in}
use Rattle.serde_json.specs.Data.{Data}
use Rattle.gql_steps.specs.Execution.{Plan, plan, Fields, no_fields, field, PlannedField}
use Rattle.gql_steps.specs.Plans.{Basis, FieldOf, IsPlan, ArePlanned, IsPlanned, planned, defined, field_of, field_of_nodes}

module _ (g : Basis)
    (arguments : (definitions : List InputValueDefinition) (given : List Argument) → (o : Outcome Data) × ArgumentsCome g.given.schema definitions given g.given.values o)
    (nested : (t : List ℕ) (k : ℕ) (xs : List FileSelection) → AllNest g.given (suc k) (selections_of xs) → NestedGroups g.given t k xs) where
  pub record SomePlan (name : List ℕ) (xs : List FileSelection) : Type 0 where
    pub x : Plan
    pub is : IsPlan g name xs x

  record SomeFields (t : List ℕ) (groups : List Group) : Type 0 where
    fields : Fields
    are : ArePlanned g t groups fields

  -- the field of a group
  planned_field : (t : List ℕ) (key : List ℕ) (first : FieldNode) (others : List FieldNode) (d : FieldOf) → field_of g t first.field.name.text ≡ Some d
      → (f : PlannedField) × IsPlanned g t (record { key = key; nodes = first ∷ others }) f
  planned_field t key first others d is =
      let a = arguments d.definition.arguments first.field.arguments in (
        planned (record { key = key; nodes = first ∷ others }) first d a.0,
        record {
          first = first;
          others = others;
          nodes = refl;
          field = d;
          defined = is;
          arguments = a.0;
          comes = a.1;
          is = refl;
        },
      )

  -- what each group selects has a plan
  abbrev Below : List Group → Type 0
  Below groups = (name : List ℕ) (group : Group) → Contains groups group → SomePlan name (selections_below group.nodes)

  some_fields : (t : List ℕ) (groups : List Group) → Below groups → SomeFields t (defined g t groups)
  some_fields t [] below = record { fields = no_fields; are = tt }
  some_fields t (gr ∷ groups) below =
      let rest = some_fields t groups (λ name group c. below name group (Contains-there group gr groups c)) in
      by gr.nodes refl (field_of_nodes g t gr.nodes) refl rest
    where
      made : (first : FieldNode) (others : List FieldNode) → gr.nodes ≡ first ∷ others → (d : FieldOf) → field_of g t first.field.name.text ≡ Some d
          → SomeFields t (defined g t groups) → SomeFields t (gr ∷ defined g t groups)
      made first others nodes d is rest =
          let p = planned_field t gr.key first others d is in
          let f : IsPlanned g t gr p.0 = subst (λ ns. IsPlanned g t (record { key = gr.key; nodes = ns }) p.0) (sym nodes) p.1 in
          let b = below (name_in p.0.of_type) gr (Contains-here gr groups) in
          record { fields = field p.0 b.x rest.fields; are = (f, b.is, rest.are) }

      by : (ns : List FieldNode) → gr.nodes ≡ ns → (o : Option (FieldOf)) → field_of_nodes g t gr.nodes ≡ o
          → SomeFields t (defined g t groups) → SomeFields t (defined g t (gr ∷ groups))
      by [] nodes o is rest = rw nodes rest
      by (first ∷ others) nodes None is rest = rw is rest
      by (first ∷ others) nodes (Some d) is rest =
          rw is (made first others nodes d (sym (ap (field_of_nodes g t) nodes) ∙ is) rest)

  -- for each type, by the groups
  record Planned (t name : List ℕ) (xs : List FileSelection) : Type 0 where
    groups : List Group
    collects : Collects g.given t xs groups
    fields : Fields
    are : ArePlanned g t (defined g t groups) fields

  of_types : (name : List ℕ) (xs : List FileSelection) → ((t : List ℕ) → Planned t name xs) → SomePlan name xs
  of_types name xs all = record {
    x = plan (λ t. (all t).fields);
    is = λ t met. ((all t).groups, (all t).collects, (all t).are);
  }

  -- nothing nests at depth 0: there are no selections then
  empty_plan : (name : List ℕ) (xs : List FileSelection) → AllNest g.given 0 (selections_of xs) → SomePlan name xs
  empty_plan name [] all = of_types name [] (λ t. record {
    groups = [];
    collects = record { nodes = []; unfolds = nothing; are = refl };
    fields = no_fields;
    are = tt;
  })
  empty_plan name (x ∷ xs) all = absurd (no (all x.selection (Contains-here x.selection (selections_of xs))))
    where
      no : {y : Selection} → Nests g.given 0 y → ⊥
      no n = elim n [ ]

  pub some_plan : (k : ℕ) (name : List ℕ) (xs : List FileSelection) → AllNest g.given k (selections_of xs) → SomePlan name xs
  some_plan zero name xs all = empty_plan name xs all
  some_plan (suc k) name xs all = of_types name xs (λ t.
      let n = nested t k xs all in
      let fs = some_fields t n.groups (λ other gr c. some_plan k other (selections_below gr.nodes) (n.below gr c)) in
      record { groups = n.groups; collects = n.collects; fields = fs.fields; are = fs.are })
